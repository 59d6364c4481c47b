use Rattle.std.proofs.Common.{◌<◌, ℕ, slice_index, IsTrue}
use Rattle.hw_model.specs.Rooms.{agrees, order_of}
use Rattle.hw_flat.proofs.room.Room.keeps_orders_of.Given as goal

abbrev pub invariant-loop-v : goal.invariant-loop-v
invariant-loop-v l = (v : ℕ) → v < l.v → IsTrue (agrees (order_of l.self v l.w) (slice_index l.table v) (slice_index l.table l.w))
