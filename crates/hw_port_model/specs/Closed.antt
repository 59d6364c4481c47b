-- What is closed in a slot: the port, a ship, a waypoint.
use Rattle.std.specs.Prelude.{ℕ, pos, Bool, not, ◌&&◌, int_le, List, [], bytes_eq, slice_get}
use Rattle.std.specs.List.{list_any}
use Rattle.std.specs.Option.{option_map_or}
use Rattle.hw_port.specs.declared.parts.Closing.{Closing}
use Rattle.hw_port.specs.declared.parts.Pass.{Pass}
use Rattle.hw_port.specs.declared.parts.Waypoint.{Waypoint}
use Rattle.hw_port.specs.Whole.{Parts}
use Rattle.hw_port.specs.Rules.{least_heights}
use Rattle.hw_port_model.specs.Numbers.{whole}

-- the slot is one of these, from the first to the last
abbrev pub closes : ℕ → Closing → Bool
closes slot c = int_le c.from (pos slot) && int_le (pos slot) c.to

-- none of these closes the slot
abbrev pub is_open : List Closing → ℕ → Bool
is_open closings slot = not (list_any (closes slot) closings)

-- what closes the waypoint of a pass
abbrev pub closed_at : List Waypoint → Pass → List Closing
closed_at waypoints pass = option_map_or (λ w. w.closed) (slice_get waypoints (whole pass.waypoint)) []

-- a pass is judged by the lesser of the heights at both ends of its slot, not by that at its beginning
abbrev pub is_least : Parts → Bool
is_least p = bytes_eq p.heights least_heights
