-- The table of a port's plan: CSV, a record for each ship.
use Rattle.std.specs.Prelude.{◌≡◌, ℕ, zero, suc, ◌+◌, nat_lt, List, [], ◌∷◌, ◌++◌, length, map, Option, Some, None, codes, decimal, if◌then◌else◌}
use Rattle.csv.specs.Writing.{default_writer, field_text, fields_text, row_text}
use Rattle.hw_port.specs.declared.parts.Waypoint.{Waypoint}
use Rattle.hw_port.specs.Parts.{ShipParts}
use Rattle.hw_port.specs.Whole.{Parts}
use Rattle.hw_tide.specs.Levels.{TideParts}
use Rattle.hw_port_model.specs.Numbers.{horizon_of}
use Rattle.hw_port_csv.specs.Entries.{ShipEntry, entries, table_entry, has_slot}
use Rattle.hw_port_csv.specs.Sailings.{SailingParts, sailing_fields}

-- a timetable of a port, with the tide
pub record TimetableParts : Type 0 where
  pub port : Parts
  pub tide : TideParts
  pub table : List ℕ

-- the tide has a column for each waypoint
abbrev pub IsTimetableParts : TimetableParts → Type 0
IsTimetableParts a = a.tide.columns ≡ length a.port.waypoints

-- the names of the columns: last those of the waypoints
abbrev pub header : Parts → List (List ℕ)
header p =
    codes "ship" ∷ codes "name" ∷ codes "direction" ∷ codes "slot" ∷ codes "time" ∷ codes "draft cm" ∷ codes "allowed draft cm" ∷ codes "limiting waypoint"
    ∷ codes "under keel cm" ∷ codes "least clearance cm" ∷ codes "cargo t" ∷ map (λ w. w.name) p.waypoints

-- those before the waypoints, as they are written
abbrev pub columns_text : List ℕ
columns_text = codes "ship,name,direction,slot,time,draft cm,allowed draft cm,limiting waypoint,under keel cm,least clearance cm,cargo t"

-- the fields of a ship that stays, after its direction
abbrev pub empty_fields : List Waypoint → List (List ℕ)
empty_fields waypoints = [] ∷ [] ∷ [] ∷ [] ∷ [] ∷ [] ∷ [] ∷ [] ∷ map (λ w. []) waypoints

-- a ship of a port that sails in its slot
abbrev pub sailing_of_entry : Parts → TideParts → ShipEntry → SailingParts
sailing_of_entry p h e = record { port = p; tide = h; number = e.number; ship = e.ship; slot = e.slot }

-- what follows a ship's direction
abbrev pub course_fields : Parts → TideParts → ShipEntry → List (List ℕ)
course_fields p h e = if nat_lt e.slot (horizon_of p) then sailing_fields (sailing_of_entry p h e) else empty_fields p.waypoints

-- how a record begins
abbrev pub ship_text : ℕ → ShipParts → List ℕ
ship_text v s = field_text default_writer (decimal v) ++ fields_text default_writer (s.name ∷ s.direction ∷ [])

-- the record of a ship
abbrev pub ship_record : Parts → TideParts → ShipEntry → List (List ℕ)
ship_record p h e = decimal e.number ∷ e.ship.name ∷ e.ship.direction ∷ course_fields p h e

-- the records of ships, one after another
abbrev pub records_text : Parts → TideParts → List ShipEntry → List ℕ
records_text p h [] = []
records_text p h (e ∷ more) = row_text default_writer (ship_record p h e) ++ records_text p h more

-- the same ship by ship, and slot by slot
abbrev pub ship_entry_text : TimetableParts → ℕ → ℕ → ShipParts → List ℕ
ship_entry_text a slot v s = if has_slot a.table slot v then row_text default_writer (ship_record a.port a.tide (table_entry v s slot)) else []

abbrev pub slot_entries_text : TimetableParts → ℕ → ℕ → List ShipParts → List ℕ
slot_entries_text a slot v [] = []
slot_entries_text a slot v (s ∷ more) = ship_entry_text a slot v s ++ slot_entries_text a slot (v + 1) more

abbrev pub slots_text : TimetableParts → ℕ → ℕ → List ℕ
slots_text a slot zero = []
slots_text a slot (suc count) = slot_entries_text a slot 0 a.port.ships ++ slots_text a (slot + 1) count

-- those of a timetable, if there is one
abbrev pub timetable_text : Parts → TideParts → Option (List ℕ) → List ℕ
timetable_text p h None = []
timetable_text p h (Some table) = records_text p h (entries p table)

-- the whole table
abbrev pub whole_table_text : Parts → TideParts → Option (List ℕ) → List ℕ
whole_table_text p h table = row_text default_writer (header p) ++ timetable_text p h table
