-- What the type of a trail keeps besides its events.
use Rattle.std.specs.Prelude.{◌≡◌, ℕ, ◌≤◌, List}
use Rattle.hw_trail_laws.specs.declared.event.Event.{Event}
use Rattle.hw_model.specs.Rooms.{RoomModel}
use Rattle.hw_trail_laws.specs.Trails.{TrailModel, room_of, IsTrail, most_events}

-- the room is the whole one cut by the events, and there is room for all events that can come
pub record KeepsTrail (t : TrailModel) (room : RoomModel) (capacity : ℕ) : Type 0 where
  pub trail : IsTrail t
  pub same_room : room ≡ room_of t
  pub reserved : most_events t.ships t.slots ≤ capacity

-- these events, as a trail of a room's numbers of ships and slots
abbrev pub trail_in : RoomModel → List Event → ℕ → TrailModel
trail_in room events level = record { ships = room.ships; slots = room.slots; events = events; level = level }
