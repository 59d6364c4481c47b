-- The hatch of closed slots, which only some ports have.
use Rattle.std.specs.Prelude.{ℕ, Bool, ◌||◌, nat_lt, length, List, [], if◌then◌else◌}
use Rattle.std.specs.List.{list_any}
use Rattle.hw_port.specs.declared.parts.Closing.{Closing}
use Rattle.hw_port.specs.Whole.{Parts}
use Rattle.hw_chart.specs.Hatches.{hatch}

abbrev pub are_some : List Closing → Bool
are_some closings = nat_lt 0 (length closings)

-- slots are closed for the port, for a ship or for a waypoint
abbrev pub has_closings : Parts → Bool
has_closings p = are_some p.closed || (list_any (λ s. are_some s.closed) p.ships || list_any (λ w. are_some w.closed) p.waypoints)

-- what hatched shapes look like
abbrev pub hatch_where : Parts → List ℕ
hatch_where p = if has_closings p then hatch else []
