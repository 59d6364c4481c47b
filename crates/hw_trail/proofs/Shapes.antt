-- The shape of a trail's room.
use Rattle.std.proofs.Common.{◌≡◌, ℕ, length, arith, ap, sym, ◌∙◌}
use Rattle.hw_model.specs.declared.shape.Shape.{Shape}
use Rattle.hw_model.specs.Rooms.{RoomModel, whole_room}
use Rattle.hw_flat.specs.Opened.{shape_in, opened}
use Rattle.hw_trail_laws.specs.Trails.{TrailModel, trail_shape, room_before, room_of, IsTrail}
use Rattle.hw_trail_laws.proofs.Trails.{room_known, room_end}

abbrev shape_by : ℕ → ℕ → Shape
shape_by ships slots = record { ships = ships; slots = slots; rules = 0 }

pub shape_same : (t : TrailModel) (room : RoomModel) → room.ships ≡ t.ships → room.slots ≡ t.slots → shape_in room ≡ trail_shape t
shape_same t room a b = ap (λ n. shape_by n room.slots) a ∙ ap (λ k. shape_by t.ships k) b

pub end_shape : (t : TrailModel) → IsTrail t → (room : RoomModel) → room ≡ room_of t → shape_in room ≡ trail_shape t
end_shape t is room e =
    let k = room_known t is (length t.events) (omega arith) in
    let same : room ≡ room_before t (length t.events) = e ∙ sym (room_end t) in
    shape_same t room (ap (λ (r : RoomModel). r.ships) same ∙ k.of.same_ships) (ap (λ (r : RoomModel). r.slots) same ∙ k.of.same_slots)

pub opened_is : (t : TrailModel) → IsTrail t → (room : RoomModel) → room ≡ room_of t → opened room ≡ whole_room (trail_shape t)
opened_is t is room e = ap whole_room (end_shape t is room e)

pub shape_from : (ships slots : ℕ) (room : RoomModel) → ships ≡ room.ships → slots ≡ room.slots → shape_by ships slots ≡ shape_in room
shape_from ships slots room a b = ap (λ n. shape_by n slots) a ∙ ap (λ k. shape_by room.ships k) b
