use Rattle.std.proofs.Common.{◌<◌, ◌≤◌, ℕ}
use Rattle.hw_model.specs.Rooms.{low_of, high_of}
use Rattle.hw_store.proofs.within.ranges_within.Given as goal

abbrev pub invariant-loop-ship : goal.invariant-loop-ship
invariant-loop-ship l = (ship : ℕ) → ship < l.ship → (low_of l.outer ship ≤ low_of l.inner ship) × (high_of l.inner ship ≤ high_of l.outer ship)
