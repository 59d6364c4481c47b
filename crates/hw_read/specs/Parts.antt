-- The parts of a value that has the form. A value of another form gives 0, false, or nothing instead.
use Rattle.std.specs.Prelude.{ℕ, ℤ, pos, List, [], ◌∷◌, codes, Bool, false, Option, Some, None, option_and_then, unwrap_or}
use Rattle.hw_port.specs.declared.parts.Waypoint.{Waypoint}
use Rattle.hw_port.specs.declared.parts.Section.{Section}
use Rattle.hw_port.specs.declared.parts.Turnaround.{Turnaround}
use Rattle.hw_port.specs.declared.parts.Pass.{Pass}
use Rattle.hw_port.specs.declared.parts.Stretch.{Stretch}
use Rattle.hw_port.specs.declared.parts.BerthPair.{BerthPair}
use Rattle.hw_port.specs.declared.parts.Closing.{Closing}
use Rattle.hw_port.specs.declared.parts.AfterPair.{AfterPair}
use Rattle.hw_port.specs.Rules.{start_heights}
use Rattle.hw_port.specs.Parts.{ShipParts}
use Rattle.hw_port.specs.Whole.{Parts}
use Rattle.serde_json.specs.Data.{Data, Items, no_items, item}
use Rattle.serde_json.specs.Find.{get, as_str, as_bool, as_array}
use Rattle.hw_read.specs.Form.{whole_number}

-- the number that a value is; 0 of another value
abbrev pub number_in_data : Data → ℤ
number_in_data d = unwrap_or (whole_number d) (pos 0)

abbrev pub text_in_data : Data → List ℕ
text_in_data d = unwrap_or (as_str d) []

abbrev pub items_in_data : Data → Items
items_in_data d = unwrap_or (as_array d) no_items

abbrev pub number_in : List ℕ → Data → ℤ
number_in name d = unwrap_or (option_and_then whole_number (get name d)) (pos 0)

abbrev pub truth_in : List ℕ → Data → Bool
truth_in name d = unwrap_or (option_and_then as_bool (get name d)) false

abbrev pub text_in : List ℕ → Data → List ℕ
text_in name d = unwrap_or (option_and_then as_str (get name d)) []

abbrev pub items_in : List ℕ → Data → Items
items_in name d = unwrap_or (option_and_then as_array (get name d)) no_items

abbrev pub each_part : {A : Type 0} → (Data → A) → Items → List A
each_part part no_items = []
each_part part (item d ds) = part d ∷ each_part part ds

-- the text of a member, if there is one
abbrev pub some_text_in : List ℕ → Data → Option (List ℕ)
some_text_in name d = option_and_then as_str (get name d)

-- closed slots of a value
abbrev pub closing_part : Data → Closing
closing_part d = record { from = number_in (codes "from") d; to = number_in (codes "to") d }

abbrev pub closings_in : Data → List Closing
closings_in d = each_part closing_part (items_in (codes "closed") d)

-- a waypoint of a value
abbrev pub waypoint_part : Data → Waypoint
waypoint_part d = record { name = text_in (codes "name") d; depth = number_in (codes "depth") d; closed = closings_in d }

-- a section of a value
abbrev pub section_part : Data → Section
section_part d = record { name = text_in_data d }

-- a row of separations of a value
abbrev pub row_part : Data → List ℤ
row_part d = each_part number_in_data (items_in_data d)

abbrev pub times_part : Option Data → Turnaround
times_part None = record { outgoing = pos 0; incoming = pos 0 }
times_part (Some d) = record { outgoing = number_in (codes "outgoing") d; incoming = number_in (codes "incoming") d }

abbrev pub turnaround_part : Data → Turnaround
turnaround_part d = times_part (get (codes "turnaround") d)

-- a pass of a value
abbrev pub pass_part : Data → Pass
pass_part d = record { waypoint = number_in (codes "waypoint") d; offset = number_in (codes "offset") d; clearance = number_in (codes "clearance") d }

-- a channel item of a value
abbrev pub stretch_part : Data → Stretch
stretch_part d = record { section = number_in (codes "section") d; enter = number_in (codes "enter") d; leave = number_in (codes "leave") d }

unfoldable pub ship_part : Data → ShipParts
ship_part d = record {
  name = text_in (codes "name") d;
  direction = text_in (codes "direction") d;
  class = number_in (codes "class") d;
  earliest = number_in (codes "earliest") d;
  latest = number_in (codes "latest") d;
  tpc = number_in (codes "tpc") d;
  light = number_in (codes "light") d;
  deep = number_in (codes "deep") d;
  route = each_part pass_part (items_in (codes "route") d);
  channel = each_part stretch_part (items_in (codes "channel") d);
  tugs = number_in (codes "tugs") d;
  job = number_in (codes "job") d;
  may_stay = truth_in (codes "may_stay") d;
  closed = closings_in d;
}

-- a berth pair of a value
abbrev pub berth_part : Data → BerthPair
berth_part d = record { outgoing = number_in (codes "outgoing") d; incoming = number_in (codes "incoming") d; clear = number_in (codes "clear") d }

-- a pair of ships, the one after the other, of a value
abbrev pub after_part : Data → AfterPair
after_part d = record { first = number_in (codes "first") d; second = number_in (codes "second") d; gap = number_in (codes "gap") d }

-- the heights that judge a pass: those at the beginning of its slot, where a value doesn't say
abbrev pub heights_in : Data → List ℕ
heights_in d = unwrap_or (some_text_in (codes "heights") d) start_heights

unfoldable pub port_parts : Data → Parts
port_parts d = record {
  version = number_in (codes "version") d;
  start = some_text_in (codes "start") d;
  slots = number_in (codes "slots") d;
  slot_minutes = number_in (codes "slot_minutes") d;
  heights = heights_in d;
  closed = closings_in d;
  waypoints = each_part waypoint_part (items_in (codes "waypoints") d);
  sections = each_part section_part (items_in (codes "sections") d);
  separation = each_part row_part (items_in (codes "separation") d);
  turnaround = turnaround_part d;
  fleet = number_in (codes "fleet") d;
  ships = each_part ship_part (items_in (codes "ships") d);
  berths = each_part berth_part (items_in (codes "berths") d);
  after = each_part after_part (items_in (codes "after") d);
}
