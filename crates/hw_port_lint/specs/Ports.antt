-- What is likely meant otherwise in a port with its tide.
use Rattle.std.specs.Prelude.{ℕ, ◌+◌, List, [], ◌∷◌, ◌++◌, codes, nat_lt, if◌then◌else◌}
use Rattle.hw_port.specs.declared.parts.Waypoint.{Waypoint}
use Rattle.hw_port.specs.Whole.{Parts}
use Rattle.hw_port_model.specs.Numbers.{whole}
use Rattle.hw_port_lint.specs.Clocks.{clock_hints}
use Rattle.hw_port_lint.specs.Lines.{unit_line}
use Rattle.hw_port_lint.specs.Ships.{ship_hints_from}

-- a depth below 30 centimetres is likely one in metres
abbrev pub depth_hint : ℕ → Waypoint → List ℕ
depth_hint number w = if nat_lt (whole w.depth) 30 then unit_line (codes "waypoints.") number (codes ".depth ") (whole w.depth) (codes " metres ") w.name else []

-- the waypoints from this number on
abbrev pub depth_hints : ℕ → List Waypoint → List ℕ
depth_hints number [] = []
depth_hints number (w ∷ more) = depth_hint number w ++ depth_hints (number + 1) more

-- the waypoints, the ships, and the waters of the table that was read as a tide of this many rows
abbrev pub port_hints : Parts → ℕ → List ℕ → List ℕ
port_hints p rows table = depth_hints 0 p.waypoints ++ ship_hints_from p rows 0 p.ships ++ clock_hints (whole p.slot_minutes) table

-- one word where there is no hint
abbrev pub or_clean : List ℕ → List ℕ
or_clean [] = codes "clean\n"
or_clean (byte ∷ more) = byte ∷ more

abbrev pub lint_text : Parts → ℕ → List ℕ → List ℕ
lint_text p rows table = or_clean (port_hints p rows table)
