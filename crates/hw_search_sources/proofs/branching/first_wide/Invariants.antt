use Rattle.std.proofs.Common.{◌≡◌, ℕ, ◌<◌, false, nat_lt}
use Rattle.hw_model.specs.Rooms.{low_of, high_of}
use Rattle.hw_search_sources.proofs.branching.first_wide.Given as goal

abbrev pub invariant-loop-ship : goal.invariant-loop-ship
invariant-loop-ship l = (k : ℕ) → k < l.ship → nat_lt (low_of l.room k) (high_of l.room k) ≡ false
