-- A timetable of a port, and which ships sail by it.
use Rattle.std.specs.Prelude.{◌≡◌, ◌⊎◌, ℕ, ℤ, ◌<◌, List, length, All, IsTrue, Some, slice_get, slice_index}
use Rattle.hw_port.specs.Parts.{ShipParts}
use Rattle.hw_port.specs.Whole.{Parts}
use Rattle.hw_port_model.specs.Numbers.{whole, horizon_of, some_may_stay}

-- one slot for each ship: a sailing slot, or, where some ship may stay, the slot after them
pub record IsPortTimetable (p : Parts) (table : List ℕ) : Type 0 where
  pub each_ship : length table ≡ length p.ships
  pub each_slot : All (λ slot. (slot < horizon_of p) ⊎ ((slot ≡ horizon_of p) × IsTrue (some_may_stay p))) table

-- the ship of this place, and the slot that the timetable gives it
pub record IsGiven (p : Parts) (table : List ℕ) (v : ℕ) (s : ShipParts) (slot : ℕ) : Type 0 where
  pub ship : slice_get p.ships v ≡ Some s
  pub given : slice_get table v ≡ Some slot

-- such a ship, and it doesn't stay
pub record SailsIn (p : Parts) (table : List ℕ) (v : ℕ) (s : ShipParts) (slot : ℕ) : Type 0 where
  pub ship : slice_get p.ships v ≡ Some s
  pub given : slice_get table v ≡ Some slot
  pub sails : slot < horizon_of p

-- the slot of the ship at a place
abbrev pub slot_of : List ℕ → ℤ → ℕ
slot_of table ship = slice_index table (whole ship)
