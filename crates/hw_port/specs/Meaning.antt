-- The meaning rules of a port, in the order of the table.
use Rattle.std.specs.Prelude.{ℕ, ℤ, pos, negsuc, List, length, take, Bool, false, not, Option, Some, None, Result, Ok, Err, bytes_eq}
use Rattle.std.specs.List.{slice_get}
use Rattle.std.specs.Ordering.{int_eq}
use Rattle.hw_lemmas.specs.Operators.{◌or_else◌}
use Rattle.hw_port.specs.declared.fault.Path.{Path}
use Rattle.hw_port.specs.declared.fault.PortFault.{PortFault}
use Rattle.hw_port.specs.declared.places.Place.TheVariants as places
use Rattle.hw_port.specs.declared.fault.PortWord.{PortWord}
use Rattle.hw_port.specs.declared.fault.PortWord.TheVariants.{Missing, Kind, Other, Range, Count, Name, Repeat, Order, Side}
use Rattle.hw_port.specs.declared.parts.Waypoint.{Waypoint}
use Rattle.hw_port.specs.declared.parts.Section.{Section}
use Rattle.hw_port.specs.declared.parts.Turnaround.{Turnaround}
use Rattle.hw_port.specs.declared.parts.BerthPair.{BerthPair}
use Rattle.hw_port.specs.declared.parts.AfterPair.{AfterPair}
use Rattle.hw_port.specs.Parts.{ShipParts}
use Rattle.hw_port.specs.Whole.{Parts}
use Rattle.hw_port.specs.Faults.{unless, each, at, at_item, at_part}
use Rattle.hw_port.specs.Rules.{range, place_in_list, count, new_name, among, outgoing, incoming, is_heights}
use Rattle.hw_port.specs.Starts.{is_start}
use Rattle.hw_port.specs.Closings.{closed_fault}
use Rattle.hw_port.specs.Ships.{ship_fault}

-- where there is a start, it is a date and time
unfoldable pub start_fault : Option (List ℕ) → Option PortFault
start_fault None = None
start_fault (Some text) = unless (at places.Start) Name (is_start text)

unfoldable pub calendar_fault : ℤ → Option (List ℕ) → ℤ → ℤ → Option PortFault
calendar_fault version start slots slot_minutes =
    range (at places.Version) (pos 1) (pos 3) version
    or_else start_fault start
    or_else range (at places.Slots) (pos 1) (pos 512) slots
    or_else range (at places.SlotMinutes) (pos 1) (pos 1440) slot_minutes

unfoldable pub heights_fault : List ℕ → Option PortFault
heights_fault heights = unless (at places.Heights) Name (is_heights heights)

-- a waypoint is passed up to 1023 slots after the last one in which a ship sails, so it is closed in one of 1535 slots
unfoldable pub waypoint_fault : List Waypoint → ℕ → Waypoint → Option PortFault
waypoint_fault all i w =
    new_name (at_item places.WaypointName i) (among (λ v. v.name) w.name (take i all)) w.name
    or_else range (at_item places.WaypointDepth i) (pos 0) (pos 10000) w.depth
    or_else closed_fault (at_item places.WaypointClosed i) places.WaypointClosingFrom places.WaypointClosingTo (Some i) 32 (pos 1535) w.closed

unfoldable pub waypoints_fault : List Waypoint → Option PortFault
waypoints_fault waypoints =
    count (at places.Waypoints) 1 16 (length waypoints)
    or_else each (waypoint_fault waypoints) 0 waypoints

unfoldable pub section_fault : List Section → ℕ → Section → Option PortFault
section_fault all i s = new_name (at_item places.Section i) (among (λ v. v.name) s.name (take i all)) s.name

unfoldable pub sections_fault : List Section → Option PortFault
sections_fault sections =
    count (at places.Sections) 0 8 (length sections)
    or_else each (section_fault sections) 0 sections

unfoldable pub gap_fault : ℕ → ℕ → ℤ → Option PortFault
gap_fault i j gap = range (at_part places.SeparationGap i j) (pos 1) (pos 512) gap

unfoldable pub row_fault : ℕ → ℕ → List ℤ → Option PortFault
row_fault classes i row =
    count (at_item places.SeparationRow i) classes classes (length row)
    or_else each (gap_fault i) 0 row

-- as many rows as there are classes, and as many numbers in each
unfoldable pub separation_fault : List (List ℤ) → Option PortFault
separation_fault separation =
    count (at places.Separation) 1 8 (length separation)
    or_else each (row_fault (length separation)) 0 separation

unfoldable pub tug_fault : Turnaround → ℤ → Option PortFault
tug_fault turnaround fleet =
    range (at places.TurnaroundOutgoing) (pos 0) (pos 512) turnaround.outgoing
    or_else range (at places.TurnaroundIncoming) (pos 0) (pos 512) turnaround.incoming
    or_else range (at places.Fleet) (pos 0) (pos 1000) fleet

unfoldable pub ships_fault : Parts → Option PortFault
ships_fault p =
    count (at places.Ships) 1 40 (length p.ships)
    or_else each (ship_fault p) 0 p.ships

-- the ship of a place
abbrev pub ship_at : List ShipParts → ℤ → Option ShipParts
ship_at ships (pos n) = slice_get ships n
ship_at ships (negsuc n) = None

abbrev pub has_direction : List ℕ → Option ShipParts → Bool
has_direction direction None = false
has_direction direction (Some s) = bytes_eq s.direction direction

-- the place of a ship of this direction
unfoldable pub side_fault : Path → List ℕ → List ShipParts → ℤ → Option PortFault
side_fault path direction ships ship =
    place_in_list path (pos (length ships)) ship
    or_else unless path Side (has_direction direction (ship_at ships ship))

unfoldable pub berth_fault : List ShipParts → ℕ → BerthPair → Option PortFault
berth_fault ships i b =
    side_fault (at_item places.BerthOutgoing i) outgoing ships b.outgoing
    or_else side_fault (at_item places.BerthIncoming i) incoming ships b.incoming
    or_else range (at_item places.BerthClear i) (pos 1) (pos 512) b.clear

unfoldable pub berths_fault : List ShipParts → List BerthPair → Option PortFault
berths_fault ships berths =
    count (at places.Berths) 0 200 (length berths)
    or_else each (berth_fault ships) 0 berths

-- the places of two different ships, and how many slots later the second sails at least
unfoldable pub after_fault : ℤ → ℕ → AfterPair → Option PortFault
after_fault ships i a =
    place_in_list (at_item places.AfterFirst i) ships a.first
    or_else place_in_list (at_item places.AfterSecond i) ships a.second
    or_else unless (at_item places.AfterSecond i) Order (not (int_eq a.first a.second))
    or_else range (at_item places.AfterGap i) (pos 0) (pos 512) a.gap

unfoldable pub afters_fault : ℤ → List AfterPair → Option PortFault
afters_fault ships pairs =
    count (at places.After) 0 200 (length pairs)
    or_else each (after_fault ships) 0 pairs

-- the first fault of meaning, in the order of the table
unfoldable pub port_fault : Parts → Option PortFault
port_fault p =
    calendar_fault p.version p.start p.slots p.slot_minutes
    or_else heights_fault p.heights
    or_else closed_fault (at places.Closed) places.ClosingFrom places.ClosingTo None 64 p.slots p.closed
    or_else waypoints_fault p.waypoints
    or_else sections_fault p.sections
    or_else separation_fault p.separation
    or_else tug_fault p.turnaround p.fleet
    or_else ships_fault p
    or_else berths_fault p.ships p.berths
    or_else afters_fault (pos (length p.ships)) p.after

-- the port of these parts, or their first fault
abbrev pub refused_by : Option PortFault → Parts → Result Parts PortFault
refused_by None p = Ok p
refused_by (Some f) p = Err f

-- the parts where there is no fault, else the first one
abbrev pub port_of : Parts → Result Parts PortFault
port_of p = refused_by (port_fault p) p

-- a word of the meaning rules; the first three are of the form
abbrev pub IsMeaning : PortWord → Type 0
IsMeaning Missing = ⊥
IsMeaning Kind = ⊥
IsMeaning Other = ⊥
IsMeaning Range = Unit {0}
IsMeaning Count = Unit {0}
IsMeaning Name = Unit {0}
IsMeaning Repeat = Unit {0}
IsMeaning Order = Unit {0}
IsMeaning Side = Unit {0}
