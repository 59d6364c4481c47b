-- How a search is kept in a part.
use Rattle.std.specs.Prelude.{◌≡◌, ℕ, ◌+◌, ◌<◌, ◌≤◌, Option, Some, None, IsSomeAnd}
use Rattle.hw_model.specs.declared.lit.Lit.{Lit}
use Rattle.hw_model.specs.declared.lit.Lit.TheVariants as lits
use Rattle.hw_model.specs.Problem.{Problem}
use Rattle.hw_model.specs.Rooms.{RoomModel, high_of, low_of}
use Rattle.hw_search_advice.specs.Advisers.{IsOpenIn}

-- the ranges of each ship of both rooms have a slot in common
abbrev pub RangesMeet : RoomModel → RoomModel → Type 0
RangesMeet part room = (ship : ℕ) → ship < part.ships → ship < room.ships → (low_of part ship ≤ high_of room ship) × (low_of room ship ≤ high_of part ship)

-- a bound of the part on the ship
abbrev pub IsShipBound : RoomModel → ℕ → Lit → Type 0
IsShipBound part ship (lits.AtOrAfter other slot) = (other ≡ ship) × (slot ≡ low_of part ship)
IsShipBound part ship (lits.Before other slot) = (other ≡ ship) × (slot ≡ high_of part ship + 1)
IsShipBound part ship (lits.First v w) = ⊥
IsShipBound part ship (lits.NotFirst v w) = ⊥

-- one that the room leaves open, or there is none
abbrev pub FindsShipBound : Problem → RoomModel → RoomModel → ℕ → Option Lit → Type 0
FindsShipBound f part room ship None = (lit : Lit) → IsShipBound part ship lit → IsOpenIn f room lit → ⊥
FindsShipBound f part room ship (Some lit) = IsShipBound part ship lit × IsOpenIn f room lit

-- a bound of the part
abbrev pub IsPartBound : RoomModel → Lit → Type 0
IsPartBound part lit = (ship : ℕ) × (ship < part.ships) × IsShipBound part ship lit

-- one that the room leaves open, or there is none
abbrev pub FindsPartBound : Problem → RoomModel → RoomModel → Option Lit → Type 0
FindsPartBound f part room None = (lit : Lit) → IsPartBound part lit → IsOpenIn f room lit → ⊥
FindsPartBound f part room (Some lit) = IsPartBound part lit × IsOpenIn f room lit

-- one is preferred, as long as the room leaves one open
abbrev pub PrefersPart : Problem → RoomModel → RoomModel → Option Lit → Type 0
PrefersPart f part room preferred = (lit : Lit) → IsPartBound part lit → IsOpenIn f room lit → IsSomeAnd preferred (IsPartBound part)
