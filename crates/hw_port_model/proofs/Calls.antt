-- A call, computed: Cape Grace comes in, loads for two slots and sails as a second ship; four sailing slots, and a slot of staying.
-- Rows of version 3: `least` on a falling and on a rising tide, closed slots of the port, of a ship and of a waypoint, and a ship after another one.
use Rattle.std.proofs.Common.{◌≡◌, ℕ, ℤ, pos, List, [], ◌∷◌, true, false, Some, None, codes, refl}
use Rattle.hw_model.specs.declared.rule.Rule.TheVariants.{After}
use Rattle.hw_port.specs.declared.parts.Closing.{Closing}
use Rattle.hw_port.specs.Parts.{ShipParts}
use Rattle.hw_port.specs.Whole.{Parts}
use Rattle.hw_tide.specs.Levels.{TideParts}
use Rattle.hw_port_model.specs.Closed.{is_open}
use Rattle.hw_port_model.specs.Drafts.{allowed, value}
use Rattle.hw_port_model.specs.Flattened.{flattened, rules_of}

abbrev pub arrival : ShipParts
arrival = record {
  name = codes "Cape Grace in";
  direction = codes "incoming";
  class = pos 0;
  earliest = pos 0;
  latest = pos 3;
  tpc = pos 0;
  light = pos 900;
  deep = pos 900;
  route = record { waypoint = pos 0; offset = pos 0; clearance = pos 150 } ∷ [];
  channel = [];
  tugs = pos 0;
  job = pos 1;
  may_stay = true;
  closed = [];
}

abbrev pub sailing_out : List Closing → ShipParts
sailing_out closings = record {
  name = codes "Cape Grace out";
  direction = codes "outgoing";
  class = pos 0;
  earliest = pos 0;
  latest = pos 3;
  tpc = pos 1_000;
  light = pos 1_000;
  deep = pos 1_700;
  route = record { waypoint = pos 0; offset = pos 1; clearance = pos 150 } ∷ [];
  channel = [];
  tugs = pos 0;
  job = pos 1;
  may_stay = true;
  closed = closings;
}

-- by these heights; the port, the ship that sails and the bar closed in these slots
abbrev pub call : List ℕ → List Closing → List Closing → List Closing → Parts
call heights port ship bar = record {
  version = pos 3;
  start = Some (codes "2027-03-27 00:00");
  slots = pos 4;
  slot_minutes = pos 60;
  heights = heights;
  closed = port;
  waypoints = record { name = codes "Bar"; depth = pos 1_500; closed = bar } ∷ [];
  sections = [];
  separation = (pos 1 ∷ []) ∷ [];
  turnaround = record { outgoing = pos 0; incoming = pos 0 };
  fleet = pos 0;
  ships = arrival ∷ sailing_out ship ∷ [];
  berths = [];
  after = record { first = pos 0; second = pos 1; gap = pos 2 } ∷ [];
}

-- the water falls from 300 to 240 and rises to 290
abbrev pub tides : TideParts
tides = record { rows = 6; columns = 1; heights = pos 300 ∷ pos 280 ∷ pos 260 ∷ pos 240 ∷ pos 260 ∷ pos 290 ∷ [] }

abbrev pub one : ℤ → ℤ → List Closing
one from to = record { from = from; to = to } ∷ []

-- ---- heights: the ship passes the bar one slot after it sails

pub falling_by_start : allowed (call (codes "start") [] [] []) tides 1 1 ≡ Some (pos 1_610)
falling_by_start = refl

pub falling_by_least : allowed (call (codes "least") [] [] []) tides 1 1 ≡ Some (pos 1_590)
falling_by_least = refl

-- on a rising tide both are the same
pub rising_by_start : allowed (call (codes "start") [] [] []) tides 1 3 ≡ Some (pos 1_610)
rising_by_start = refl

pub rising_by_least : allowed (call (codes "least") [] [] []) tides 1 3 ≡ Some (pos 1_610)
rising_by_least = refl

-- the last row judges a pass by the height at its beginning alone
pub last_by_start : allowed (call (codes "start") [] [] []) tides 1 4 ≡ Some (pos 1_640)
last_by_start = refl

pub last_by_least : allowed (call (codes "least") [] [] []) tides 1 4 ≡ None
last_by_least = refl

-- ---- closed slots

pub open_before : is_open (one (pos 1) (pos 2)) 0 ≡ true
open_before = refl

pub first_is_closed : is_open (one (pos 1) (pos 2)) 1 ≡ false
first_is_closed = refl

pub last_is_closed : is_open (one (pos 1) (pos 2)) 2 ≡ false
last_is_closed = refl

pub open_after : is_open (one (pos 1) (pos 2)) 3 ≡ true
open_after = refl

-- no ship sails while the port is closed
pub closed_port_out : value (call (codes "start") (one (pos 1) (pos 2)) [] []) tides 1 1 ≡ None
closed_port_out = refl

pub closed_port_in : value (call (codes "start") (one (pos 1) (pos 2)) [] []) tides 0 2 ≡ None
closed_port_in = refl

pub port_open_again : value (call (codes "start") (one (pos 1) (pos 2)) [] []) tides 0 3 ≡ Some 0
port_open_again = refl

-- the ship that is closed doesn't sail; its draft and the other ship are as they were
pub closed_ship : value (call (codes "start") [] (one (pos 1) (pos 1)) []) tides 1 1 ≡ None
closed_ship = refl

pub closed_ship_draft : allowed (call (codes "start") [] (one (pos 1) (pos 1)) []) tides 1 1 ≡ Some (pos 1_610)
closed_ship_draft = refl

pub other_ship_sails : value (call (codes "start") [] (one (pos 1) (pos 1)) []) tides 0 1 ≡ Some 0
other_ship_sails = refl

-- the bar is closed in slot 2: it isn't passed then, so the outgoing ship doesn't sail in slot 1, nor the incoming one in slot 2
pub closed_bar_draft : allowed (call (codes "start") [] [] (one (pos 2) (pos 2))) tides 1 1 ≡ None
closed_bar_draft = refl

pub past_closed_bar : value (call (codes "start") [] [] (one (pos 2) (pos 2))) tides 1 2 ≡ Some 590_000
past_closed_bar = refl

pub closed_bar_in : value (call (codes "start") [] [] (one (pos 2) (pos 2))) tides 0 2 ≡ None
closed_bar_in = refl

-- ---- the flat problem: the rule stands behind the separation of no pair (the two ships meet in no section)

pub call_rules : rules_of (call (codes "start") [] [] []) ≡ After 0 1 2 ∷ []
call_rules = refl

pub flat_call : flattened (call (codes "least") [] [] (one (pos 4) (pos 4))) tides ≡ record { ships = 2; slots = 5; stay = true; values = Some 0 ∷ Some 0 ∷ Some 0 ∷ Some 0 ∷ Some 0 ∷ Some 610_000 ∷ Some 590_000 ∷ Some 590_000 ∷ None ∷ Some 0 ∷ []; rules = After 0 1 2 ∷ [] }
flat_call = refl
