-- The room that leaves every slot and every order of another one open.
use Rattle.hw_model.specs.declared.shape.Shape.{Shape}
use Rattle.hw_model.specs.Rooms.{RoomModel, whole_room}

-- the numbers of ships and slots of a room, as the shape of a problem without rules
abbrev pub shape_in : RoomModel → Shape
shape_in room = record { ships = room.ships; slots = room.slots; rules = 0 }

-- the whole room of the same numbers of ships and slots
abbrev pub opened : RoomModel → RoomModel
opened room = whole_room (shape_in room)
