-- A ship that comes in, loads for two slots and sails as a second ship, with what was worked out by hand.
use Rattle.std.specs.Prelude.{◌≡◌, ℕ, pos, List, [], ◌∷◌, None, Some, codes, true}
use Rattle.hw_port.specs.Parts.{ShipParts}
use Rattle.hw_port.specs.Whole.{Parts}
use Rattle.hw_tide.specs.Levels.{TideParts}
use Rattle.hw_port_model.specs.Flattened.{flattened}
use Rattle.hw_audit.specs.declared.event.PortEvent.{PortEvent}
use Rattle.hw_audit.specs.declared.event.PortEvent.TheVariants.{Delayed}
use Rattle.hw_audit.specs.Watching.{watched, after_all, first_refused, broken_now}

abbrev pub arrival : ShipParts
arrival = record {
  name = codes "Grace in";
  direction = codes "incoming";
  class = pos 0;
  earliest = pos 0;
  latest = pos 4;
  tpc = pos 0;
  light = pos 900;
  deep = pos 900;
  route = record { waypoint = pos 0; offset = pos 0; clearance = pos 150 } ∷ [];
  channel = [];
  tugs = pos 0;
  job = pos 1;
  may_stay = true;
  closed = [];
}

-- it passes the bar a slot after it sails, and doesn't sail in slot 3
abbrev pub loaded_ship : ShipParts
loaded_ship = record {
  name = codes "Grace out";
  direction = codes "outgoing";
  class = pos 0;
  earliest = pos 0;
  latest = pos 4;
  tpc = pos 1_000;
  light = pos 1_000;
  deep = pos 1_700;
  route = record { waypoint = pos 0; offset = pos 1; clearance = pos 150 } ∷ [];
  channel = [];
  tugs = pos 0;
  job = pos 1;
  may_stay = true;
  closed = record { from = pos 3; to = pos 3 } ∷ [];
}

-- the port is closed in slot 1, and the bar in slot 5
abbrev pub call : Parts
call = record {
  version = pos 3;
  start = Some (codes "2027-03-27 00:00");
  slots = pos 5;
  slot_minutes = pos 60;
  heights = codes "start";
  closed = record { from = pos 1; to = pos 1 } ∷ [];
  waypoints = record { name = codes "Bar"; depth = pos 1_500; closed = record { from = pos 5; to = pos 5 } ∷ [] } ∷ [];
  sections = [];
  separation = (pos 1 ∷ []) ∷ [];
  turnaround = record { outgoing = pos 0; incoming = pos 0 };
  fleet = pos 0;
  ships = arrival ∷ loaded_ship ∷ [];
  berths = [];
  after = record { first = pos 0; second = pos 1; gap = pos 2 } ∷ [];
}

abbrev pub tides : TideParts
tides = record { rows = 6; columns = 1; heights = pos 300 ∷ pos 280 ∷ pos 260 ∷ pos 240 ∷ pos 260 ∷ pos 290 ∷ [] }

-- the ship comes in in slot 0 and sails in slot 2; what is broken after these delays
abbrev pub broken_after_delays : List PortEvent → List ℕ
broken_after_delays events = broken_now (flattened call tides) (after_all (watched (0 ∷ 2 ∷ [])) events)

-- restrictions 0 and 1 are the windows, 2 is the ship after the other one
pub record CallRows : Type 0 where
  pub as_planned : broken_after_delays [] ≡ []
  pub ship_closed : broken_after_delays (Delayed 1 1 ∷ []) ≡ 1 ∷ []
  pub bar_closed : broken_after_delays (Delayed 1 2 ∷ []) ≡ 1 ∷ []
  pub port_closed_and_late : broken_after_delays (Delayed 0 1 ∷ []) ≡ 0 ∷ 2 ∷ []
  pub late : broken_after_delays (Delayed 0 2 ∷ []) ≡ 2 ∷ []
  -- the second ship is two slots late too: it keeps its distance, but the bar is closed when it passes
  pub both_late : broken_after_delays (Delayed 0 2 ∷ Delayed 1 2 ∷ []) ≡ 1 ∷ []
  -- no event is refused for a closed slot
  pub taken : first_refused (flattened call tides) 0 2 (watched (0 ∷ 2 ∷ [])) (Delayed 0 1 ∷ Delayed 1 1 ∷ []) ≡ None
