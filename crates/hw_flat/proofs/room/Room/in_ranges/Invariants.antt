use Rattle.std.proofs.Common.{◌<◌, ℕ, slice_index}
use Rattle.hw_model.specs.Rooms.{InRange}
use Rattle.hw_flat.proofs.room.Room.in_ranges.Given as goal

abbrev pub invariant-loop-ship : goal.invariant-loop-ship
invariant-loop-ship l = (ship : ℕ) → ship < l.ship → InRange l.self ship (slice_index l.table ship)
