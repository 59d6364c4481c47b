-- What the type of a room keeps, where all is open and where an order is put: also the places that are no pair.
use Rattle.std.proofs.Common.{◌≡◌, ℕ, ◌+◌, ◌-◌, ◌*◌, ◌<◌, ◌≤◌, ◌∙◌, arith, length-set, get_or-set_other}
use Rattle.std.proofs.lemmas.List.{get_or-replicate, length-replicate}
use Rattle.std.proofs.lemmas.List.Elements.{All-replicate}
use Rattle.std.proofs.lemmas.Nat.{same_from_place, rows}
use Rattle.hw_model.specs.declared.order.Order.{Order}
use Rattle.hw_model.specs.declared.order.Order.TheVariants.{Unset}
use Rattle.hw_model.specs.declared.shape.Shape.{Shape}
use Rattle.hw_model.specs.Limits.{ShapeFits}
use Rattle.hw_model.specs.Rooms.{RoomModel, IsRoom, order_of, whole_room}
use Rattle.hw_model.specs.Narrowing.{with_order}

pub placed : (n v w : ℕ) → v < n → w < n → v * n + w < n * n
placed n v w p q = grind (arith, rows)

-- in the room that leaves all open
pub whole_no_pair : (shape : Shape) (v w : ℕ) → w ≤ v → v < shape.ships → order_of (whole_room shape) v w ≡ Unset
whole_no_pair shape v w le lt = get_or-replicate (shape.ships * shape.ships) (v * shape.ships + w) Unset Unset (placed shape.ships v w lt (omega (arith, le, lt)))

-- in a room with another order of a pair
pub with_order_no_pair : (room : RoomModel) (v w : ℕ) (order : Order) (a b : ℕ) → v < w → w < room.ships → b ≤ a → a < room.ships → order_of room a b ≡ Unset → order_of (with_order room v w order) a b ≡ Unset
with_order_no_pair room v w order a b vw lt ba alt unset =
    get_or-set_other room.orders (v * room.ships + w) (a * room.ships + b) order Unset (λ e.
    let s = same_from_place a b v w room.ships (omega (arith, ba, alt)) lt e in
    omega (arith, vw, ba, s.0, s.1)) ∙ unset

pub order_room : (room : RoomModel) (v w : ℕ) (order : Order) → IsRoom room → v < w → w < room.ships → IsRoom (with_order room v w order)
order_room room v w order is vw lt = record {
  few = is.few;
  few_slots = is.few_slots;
  each_ship = is.each_ship;
  each_pair = length-set room.orders _ _ ∙ is.each_pair;
  ordered = is.ordered;
  in_slots = is.in_slots;
  no_pair = λ a b ba inside. with_order_no_pair room v w order a b vw lt ba inside (is.no_pair a b ba inside);
}

pub whole_is : (shape : Shape) → ShapeFits shape → IsRoom (whole_room shape)
whole_is shape fits = record {
  few = fits.few_ships;
  few_slots = fits.few_slots;
  each_ship = length-replicate shape.ships _;
  each_pair = length-replicate (shape.ships * shape.ships) _;
  ordered = All-replicate (λ range. range.0 ≤ range.1) shape.ships (0, shape.slots - 1) (omega arith);
  in_slots = All-replicate (λ range. range.1 < shape.slots) shape.ships (0, shape.slots - 1) (omega (arith, fits.some_slot));
  no_pair = whole_no_pair shape;
}
