use Rattle.std.proofs.Common.{◌<◌, ℕ, slice_index, IsTrue}
use Rattle.hw_model.specs.Rooms.{agrees, order_of}
use Rattle.hw_flat.proofs.room.Room.keeps_orders.Given as goal

abbrev pub invariant-loop-w : goal.invariant-loop-w
invariant-loop-w l = (v w : ℕ) → v < w → w < l.w → IsTrue (agrees (order_of l.self v w) (slice_index l.table v) (slice_index l.table w))
