use Rattle.std.proofs.Common.{ℕ, ◌<◌, ◌≤◌}
use Rattle.hw_model.specs.Rooms.{high_of, low_of}
use Rattle.hw_search_resumed.proofs.confined.ranges_meet.Given as goal

abbrev pub invariant-loop-ship : goal.invariant-loop-ship
invariant-loop-ship l = (ship : ℕ) → ship < l.ship → (low_of l.part ship ≤ high_of l.room ship) × (low_of l.room ship ≤ high_of l.part ship)
