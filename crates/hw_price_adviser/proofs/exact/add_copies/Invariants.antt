use Rattle.std.proofs.Common.{◌≡◌, ◌++◌, take}
use Rattle.hw_price_adviser.proofs.exact.add_copies.Given as goal

abbrev pub invariant-loop-toll : goal.invariant-loop-toll
invariant-loop-toll l = l.all.items ≡ l.initial.all.items ++ take l.toll-index l.tolls
