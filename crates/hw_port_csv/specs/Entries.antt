-- The ships of a timetable in the order of their slots.
use Rattle.std.specs.Prelude.{ℕ, zero, suc, ◌+◌, nat_eq, Bool, false, List, [], ◌∷◌, ◌++◌, Option, Some, None, slice_get, if◌then◌else◌}
use Rattle.hw_port.specs.Parts.{ShipParts}
use Rattle.hw_port.specs.Whole.{Parts}
use Rattle.hw_port_model.specs.Numbers.{horizon_of}

-- a ship with its number and its slot
pub record ShipEntry : Type 0 where
  pub number : ℕ
  pub ship : ShipParts
  pub slot : ℕ

abbrev pub table_entry : ℕ → ShipParts → ℕ → ShipEntry
table_entry v s slot = record { number = v; ship = s; slot = slot }

-- the slot is this one
abbrev pub is_slot : ℕ → Option ℕ → Bool
is_slot slot None = false
is_slot slot (Some given) = nat_eq given slot

-- a timetable gives the ship of this number this slot
abbrev pub has_slot : List ℕ → ℕ → ℕ → Bool
has_slot table slot v = is_slot slot (slice_get table v)

-- the ship, where it has the slot
abbrev pub entry_in : List ℕ → ℕ → ℕ → ShipParts → List ShipEntry
entry_in table slot v s = if has_slot table slot v then table_entry v s slot ∷ [] else []

-- the ships from this number on that have the slot
abbrev pub entries_in : List ℕ → ℕ → ℕ → List ShipParts → List ShipEntry
entries_in table slot v [] = []
entries_in table slot v (s ∷ more) = entry_in table slot v s ++ entries_in table slot (v + 1) more

-- the ships that have a slot from this one on, one of this many, slot by slot
abbrev pub entries_from : List ℕ → List ShipParts → ℕ → ℕ → List ShipEntry
entries_from table ships slot zero = []
entries_from table ships slot (suc count) = entries_in table slot 0 ships ++ entries_from table ships (slot + 1) count

-- the ships of a timetable by their slots, and by their numbers where these are alike; those that stay have the slot after the last one
abbrev pub entries : Parts → List ℕ → List ShipEntry
entries p table = entries_from table p.ships 0 (horizon_of p + 1)
