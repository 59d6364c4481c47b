use Rattle.std.proofs.Common.{◌≡◌, ◌<◌, ℕ}
use Rattle.hw_model.specs.Rooms.{low_of, high_of}
use Rattle.hw_flat.proofs.room.Room.is_point.Given as goal

abbrev pub invariant-loop-range : goal.invariant-loop-range
invariant-loop-range l = (ship : ℕ) → ship < l.range-index → low_of l.self ship ≡ high_of l.self ship
