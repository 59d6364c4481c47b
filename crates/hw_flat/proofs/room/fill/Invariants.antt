use Rattle.std.proofs.Common.{◌≡◌, take, replicate}
use Rattle.hw_flat.proofs.room.fill.Given as goal

abbrev pub invariant-loop-item : goal.invariant-loop-item
invariant-loop-item g l = take l.item-index l.items ≡ replicate l.item-index l.value
