-- What a room knows: the literals that it makes true.
use Rattle.std.specs.Prelude.{ℕ, ◌-◌, ◌&&◌, false, nat_lt, nat_le}
use Rattle.hw_model.specs.declared.lit.Lit.{Lit}
use Rattle.hw_model.specs.declared.lit.Lit.TheVariants.{AtOrAfter, Before, First, NotFirst}
use Rattle.hw_model.specs.declared.order.Order.TheVariants as orders
use Rattle.hw_model.specs.Rooms.{RoomModel, low_of, high_of, order_of}
use Rattle.hw_model.specs.Narrowing.{with_range, with_order}
use Rattle.hw_model.specs.RefutingComputed.{is_first, is_not_first}
use Rattle.hw_trail_laws.specs.Replays.{Facts}

-- the room makes the literal of its ships true
abbrev pub knows : RoomModel → Facts
knows room (AtOrAfter v k) = nat_lt v room.ships && nat_le k (low_of room v)
knows room (Before v k) = nat_lt v room.ships && nat_lt (high_of room v) k
knows room (First v w) = (nat_lt v w && nat_lt w room.ships) && is_first (order_of room v w)
knows room (NotFirst v w) = (nat_lt v w && nat_lt w room.ships) && is_not_first (order_of room v w)

-- what each room of this many ships and slots knows
abbrev pub always : ℕ → ℕ → Facts
always ships slots (AtOrAfter v k) = nat_lt v ships && nat_le k 0
always ships slots (Before v k) = nat_lt v ships && nat_le slots k
always ships slots (First v w) = false
always ships slots (NotFirst v w) = false

-- the room without what it knows of the literal's side
abbrev pub widened : Lit → RoomModel → RoomModel
widened (AtOrAfter v k) room = with_range room v 0 (high_of room v)
widened (Before v k) room = with_range room v (low_of room v) (room.slots - 1)
widened (First v w) room = with_order room v w orders.Unset
widened (NotFirst v w) room = with_order room v w orders.Unset
