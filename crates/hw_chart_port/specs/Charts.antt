-- A port with its tide, and a timetable or none: what a picture is drawn from.
use Rattle.std.specs.Prelude.{◌≡◌, ◌<◌, ◌≤◌, length, IfSome, min, ℕ, ◌+◌, ◌*◌, ◌/◌, ℤ, pos, ◌-ℤ◌, List, codes, Option, Some, None, unwrap_or, unsigned_abs, if◌then◌else◌}
use Rattle.hw_port.specs.Kept.{PortKept}
use Rattle.hw_port.specs.Parts.{ShipParts}
use Rattle.hw_port.specs.Whole.{Parts}
use Rattle.hw_tide.specs.Levels.{TideParts}
use Rattle.hw_port_model.specs.Numbers.{whole, horizon_of, is_outgoing}
use Rattle.hw_port_model.specs.Drafts.{allowed, sailing, value}
use Rattle.hw_chart_calendar.specs.Calendars.{midnight}
use Rattle.hw_chart.specs.declared.course.Course.{Course}
use Rattle.hw_chart.specs.Courses.{course_of, slot_in}

pub record ChartParts : Type 0 where
  pub port : Parts
  pub tide : TideParts
  pub table : Option (List ℕ)
  pub span : ℕ

-- what the timetable says of a ship
abbrev pub course_in : Parts → Option (List ℕ) → ℕ → Course
course_in p table ship = course_of (slot_in table ship) (horizon_of p)

abbrev pub course : ChartParts → ℕ → Course
course chart ship = course_in chart.port chart.table ship

-- the slot of a ship, 0 where there is none
abbrev pub slot_in_chart : ChartParts → ℕ → ℕ
slot_in_chart chart ship = unwrap_or (slot_in chart.table ship) 0

-- the minutes from midnight to the beginning of slot 0, where that has a date
abbrev pub midnight_of : Option (List ℕ) → ℕ
midnight_of None = 0
midnight_of (Some start) = midnight start

-- the minutes to the beginning of a slot: from that of slot 0, or from the midnight before it, where that has a date
abbrev pub minutes_to : ChartParts → ℕ → ℕ
minutes_to chart slot = slot * whole chart.port.slot_minutes + midnight_of chart.port.start

-- how tall a window is that shows this many units: an eighth more, so that nothing is too low to be seen
abbrev pub tall_over : ℕ → ℕ
tall_over units = units + units / 8 + 1

-- the same from one number up to another
abbrev pub tall_between : ℤ → ℤ → ℕ
tall_between low high = tall_over (unsigned_abs (high -ℤ low))

-- the draft at which a ship sails in a slot, 0 where it may not
abbrev pub draft_in : ChartParts → ℕ → ℕ → ℕ
draft_in chart ship slot = whole (unwrap_or (sailing chart.port chart.tide ship slot) (pos 0))

-- the draft that a slot allows a ship, 0 where it passes a waypoint outside the tide
abbrev pub allowed_in : ChartParts → ℕ → ℕ → ℤ
allowed_in chart ship slot = unwrap_or (allowed chart.port chart.tide ship slot) (pos 0)

-- what a ship carries in a slot, 0 where it may not sail
abbrev pub cargo_in : ChartParts → ℕ → ℕ → ℕ
cargo_in chart ship slot = unwrap_or (value chart.port chart.tide ship slot) 0

-- the slots that a picture shows of the tide: a shorter one ends before the picture does
abbrev pub shown : ChartParts → ℕ
shown chart = min chart.span chart.tide.rows

-- one text for a ship that goes out, and another one for a ship that comes in
abbrev pub by_direction : ShipParts → List ℕ → List ℕ → List ℕ
by_direction s goes_out comes_in = if is_outgoing s then goes_out else comes_in

-- the class of a ship's shapes, by its direction
abbrev pub way : ShipParts → List ℕ
way s = by_direction s (codes "ou") (codes "in")

-- the class of the marks of a ship's sailing
abbrev pub mark_class : ShipParts → List ℕ
mark_class s = by_direction s (codes "ou mk") (codes "in mk")

-- the plan of a port that keeps the meaning rules, with a tide of its waypoints and a span that is not too wide
pub record IsChart (chart : ChartParts) : Type 0 where
  pub kept : PortKept chart.port
  pub columns : chart.tide.columns ≡ length chart.port.waypoints
  pub some : 0 < chart.span
  pub few : chart.span ≤ 1_535
  pub listed : IfSome chart.table (λ table. length table ≡ length chart.port.ships)
