use Rattle.std.proofs.Common.{◌≡◌, ℕ, map, take}
use Rattle.hw_search_ledger.proofs.writing.lowest.Given as goal

abbrev pub invariant-loop-ship : goal.invariant-loop-ship
invariant-loop-ship l = l.slots.items ≡ map (λ (range : ℕ × ℕ). range.0) (take l.ship l.room.ranges)
