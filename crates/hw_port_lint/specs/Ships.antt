-- What is likely meant otherwise of a port's ships.
use Rattle.std.specs.Prelude.{ℕ, ◌+◌, ◌*◌, ◌&&◌, List, [], ◌∷◌, ◌++◌, Bool, codes, nat_lt, nat_le, if◌then◌else◌}
use Rattle.hw_port.specs.Parts.{ShipParts}
use Rattle.hw_port.specs.Whole.{Parts}
use Rattle.hw_port_model.specs.Numbers.{whole}
use Rattle.hw_draft.specs.LastPasses.{judging_slot, last_pass}
use Rattle.hw_port_lint.specs.Lines.{unit_line, short_line}

-- the line of a member of a ship
abbrev pub ship_member : ℕ → ShipParts → List ℕ → ℕ → List ℕ → List ℕ
ship_member number s member value unit = unit_line (codes "ships.") number member value unit s.name

-- a deepest draft below 30 centimetres is likely one in metres
abbrev pub draft_hint : ℕ → ShipParts → List ℕ
draft_hint number s = if nat_lt (whole s.deep) 30 then ship_member number s (codes ".deep ") (whole s.deep) (codes " metres ") else []

-- a ship with a draft of 10 metres carries more than 20 tonnes for a centimetre, so less is likely in tonnes
abbrev pub load_hint : ℕ → ShipParts → List ℕ
load_hint number s = if nat_lt 0 (whole s.tpc) && (nat_lt (whole s.tpc) 200 && nat_le 1_000 (whole s.deep)) then ship_member number s (codes ".tpc ") (whole s.tpc) (codes " tonnes ") else []

-- this many slots take at least this many minutes
abbrev pub is_long : Parts → ℕ → ℕ → Bool
is_long p slots minutes = nat_le minutes (slots * whole p.slot_minutes)

-- tugs that a ship has for eight hours or longer are likely ones whose job is in minutes
abbrev pub job_hint : Parts → ℕ → ShipParts → List ℕ
job_hint p number s = if is_long p (whole s.job) 480 then ship_member number s (codes ".job ") (whole s.job) (codes " minutes ") else []

-- a pass twelve hours or more after a ship's slot is likely one whose offset is in minutes
unfoldable pub late_by : Parts → ℕ → ShipParts → ℕ → List ℕ
late_by p number s last = if is_long p last 720 then ship_member number s (codes ".route offset ") last (codes " minutes ") else []

abbrev pub late_hint : Parts → ℕ → ShipParts → List ℕ
late_hint p number s = late_by p number s ((last_pass s.route).offset)

-- the last slot whose height a ship needs that sails in its latest slot: that of its last pass, or the one after it
abbrev pub last_height_needed : Parts → ShipParts → ℕ
last_height_needed p s = judging_slot p (whole s.latest) (last_pass s.route)

-- the tide table, of this many rows, ends before that slot: the rows that it lacks
abbrev pub short_hint : Parts → ℕ → ShipParts → List ℕ
short_hint p rows s = if nat_le rows (last_height_needed p s) then short_line rows (last_height_needed p s) s.name else []

abbrev pub ship_hints : Parts → ℕ → ℕ → ShipParts → List ℕ
ship_hints p rows number s = draft_hint number s ++ load_hint number s ++ job_hint p number s ++ late_hint p number s ++ short_hint p rows s

-- the ships from this number on
abbrev pub ship_hints_from : Parts → ℕ → ℕ → List ShipParts → List ℕ
ship_hints_from p rows number [] = []
ship_hints_from p rows number (s ∷ more) = ship_hints p rows number s ++ ship_hints_from p rows (number + 1) more
