use Rattle.std.proofs.Common.{◌≡◌, ℕ, ◌<◌, ◌≤◌, false, unwrap_or}
use Rattle.std.specs.Prelude.{◌==◌}
use Rattle.hw_model.specs.Problem.{value_at}
use Rattle.hw_model.specs.Rooms.{low_of}
use Rattle.hw_search_sources.proofs.branching.greatest_slot.Given as goal

abbrev pub invariant-loop-slot : goal.invariant-loop-slot
invariant-loop-slot l = (k : ℕ) → low_of l.room l.ship ≤ k → k < l.slot → (unwrap_or (value_at l.flat l.ship k) 0 == l.most) ≡ false
