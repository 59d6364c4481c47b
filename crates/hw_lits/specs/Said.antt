-- What a room says of a ship and of a pair, as the literal whose denial leaves just that.
use Rattle.std.specs.Prelude.{ℕ, ◌+◌, nat_lt, if◌then◌else◌, List, [], ◌∷◌, Option, Some, None}
use Rattle.hw_model.specs.declared.lit.Lit.{Lit}
use Rattle.hw_model.specs.declared.lit.Lit.TheVariants as lits
use Rattle.hw_model.specs.declared.order.Order.{Order}
use Rattle.hw_model.specs.declared.order.Order.TheVariants.{Unset, First, NotFirst}
use Rattle.hw_model.specs.Rooms.{RoomModel, low_of, high_of, order_of}

-- that the ship sails after its highest slot, none where no slot comes after it
abbrev pub above_said : RoomModel → ℕ → Option Lit
above_said room ship = if nat_lt (high_of room ship + 1) room.slots then Some (lits.AtOrAfter ship (high_of room ship + 1)) else None

-- that the ship sails before its lowest slot, none where that is slot 0
abbrev pub below_said : RoomModel → ℕ → Option Lit
below_said room ship = if nat_lt 0 (low_of room ship) then Some (lits.Before ship (low_of room ship)) else None

-- the other order of two ships, none where none is set
abbrev pub turned : Order → ℕ → ℕ → Option Lit
turned Unset v w = None
turned First v w = Some (lits.NotFirst v w)
turned NotFirst v w = Some (lits.First v w)

-- the same of a room's order
abbrev pub turned_said : RoomModel → ℕ → ℕ → Option Lit
turned_said room v w = turned (order_of room v w) v w

-- a list of what there is
abbrev pub one_or_none : Option Lit → List Lit
one_or_none None = []
one_or_none (Some lit) = lit ∷ []
