-- Where a literal may be denied.
use Rattle.std.specs.Prelude.{◌-◌, ◌≤◌, ⊤}
use Rattle.hw_model.specs.declared.lit.Lit.{Lit}
use Rattle.hw_model.specs.declared.lit.Lit.TheVariants as lits
use Rattle.hw_model.specs.Rooms.{RoomModel, low_of, high_of}

-- the negation of the literal leaves the ship's range some slot
abbrev pub LeavesSlots : RoomModel → Lit → Type 0
LeavesSlots room (lits.AtOrAfter ship slot) = low_of room ship ≤ slot - 1
LeavesSlots room (lits.Before ship slot) = slot ≤ high_of room ship
LeavesSlots room (lits.First v w) = ⊤
LeavesSlots room (lits.NotFirst v w) = ⊤
