-- A small port, worked out by hand: a ship that goes out over a bar, and one that comes in over it.
use Rattle.std.specs.Prelude.{◌≡◌, ℕ, pos, negsuc, ℤ, List, [], ◌∷◌, None, Some, option_map, false, codes, slice_index_or}
use Rattle.hw_port.specs.declared.parts.Closing.{Closing}
use Rattle.hw_port.specs.Parts.{ShipParts}
use Rattle.hw_port.specs.Whole.{Parts}
use Rattle.hw_tide.specs.Levels.{TideParts}
use Rattle.hw_draft.specs.LastPasses.{last_pass}
use Rattle.hw_draft.specs.Passages.{limiting}
use Rattle.hw_port_windows.specs.declared.status.Status.{Status}
use Rattle.hw_port_windows.specs.declared.status.Status.TheVariants.{Sails, Closed, Shallow, TidesEnd}
use Rattle.hw_port_windows.specs.Statuses.{status_in}
use Rattle.hw_port_windows.specs.Runs.{deepest, lightest, runs}
use Rattle.hw_port_windows.specs.Lines.{shallow_line}
use Rattle.hw_port_windows.specs.Windows.{ship_windows_text, windows_text}

-- the ship that goes out, with this full draft
abbrev pub ada : ℤ → ShipParts
ada deep = record {
  name = codes "Ada";
  direction = codes "outgoing";
  class = pos 0;
  earliest = pos 0;
  latest = pos 4;
  tpc = pos 100;
  light = pos 1_050;
  deep = deep;
  route = record { waypoint = pos 0; offset = pos 0; clearance = pos 50 } ∷ record { waypoint = pos 1; offset = pos 1; clearance = pos 100 } ∷ [];
  channel = record { section = pos 0; enter = pos 0; leave = pos 3 } ∷ [];
  tugs = pos 2;
  job = pos 2;
  may_stay = false;
  closed = [];
}

-- the ship that comes in
abbrev pub gull : ShipParts
gull = record {
  name = codes "Gull";
  direction = codes "incoming";
  class = pos 1;
  earliest = pos 1;
  latest = pos 5;
  tpc = pos 100;
  light = pos 1_100;
  deep = pos 1_100;
  route = record { waypoint = pos 1; offset = pos 0; clearance = pos 100 } ∷ record { waypoint = pos 0; offset = pos 2; clearance = pos 50 } ∷ [];
  channel = record { section = pos 0; enter = pos 1; leave = pos 2 } ∷ [];
  tugs = pos 2;
  job = pos 1;
  may_stay = false;
  closed = [];
}

-- a port of these two, with the first one's full draft
abbrev pub example_port : ℤ → Parts
example_port deep = record {
  version = pos 1;
  start = None;
  slots = pos 6;
  slot_minutes = pos 30;
  heights = codes "start";
  closed = [];
  waypoints = record { name = codes "Berth"; depth = pos 1_300; closed = [] } ∷ record { name = codes "Bar"; depth = pos 1_000; closed = [] } ∷ [];
  sections = record { name = codes "Cut" } ∷ [];
  separation = (pos 2 ∷ pos 4 ∷ []) ∷ (pos 1 ∷ pos 3 ∷ []) ∷ [];
  turnaround = record { outgoing = pos 1; incoming = pos 0 };
  fleet = pos 3;
  ships = ada deep ∷ gull ∷ [];
  berths = record { outgoing = pos 0; incoming = pos 1; clear = pos 1 } ∷ [];
  after = [];
}

-- slots closed, from the first to the last
abbrev pub closed_from_to : ℤ → ℤ → List Closing
closed_from_to from to = record { from = from; to = to } ∷ []

-- the same port, where its bar is closed in slot 2, the port in slot 4 and Gull in slot 2
abbrev pub shut_port : Parts
shut_port = record (example_port (pos 1_150)) {
  version = pos 3;
  closed = closed_from_to (pos 4) (pos 4);
  waypoints = record { name = codes "Berth"; depth = pos 1_300; closed = [] } ∷ record { name = codes "Bar"; depth = pos 1_000; closed = closed_from_to (pos 2) (pos 2) } ∷ [];
  ships = ada (pos 1_150) ∷ record gull { closed = closed_from_to (pos 2) (pos 2) } ∷ [];
}

-- the same port, where heights are the lesser of those at both ends of a slot
abbrev pub least_port : Parts
least_port = record (example_port (pos 1_150)) { version = pos 3; heights = codes "least" }

-- seven slots
abbrev pub tide : TideParts
tide = record { rows = 7; columns = 2; heights = pos 100 ∷ pos 100 ∷ pos 160 ∷ pos 180 ∷ pos 220 ∷ pos 240 ∷ pos 240 ∷ pos 260 ∷ pos 200 ∷ pos 220 ∷ pos 140 ∷ pos 140 ∷ pos 80 ∷ pos 90 ∷ [] }

-- the same, of which only the first two slots were typed
abbrev pub short_tide : TideParts
short_tide = record { rows = 2; columns = 2; heights = pos 100 ∷ pos 100 ∷ pos 160 ∷ pos 180 ∷ [] }

-- statuses by slot
abbrev pub listed : ℕ → Status
listed slot = slice_index_or (Sails (pos 900) ∷ Sails (pos 910) ∷ Shallow (pos 790) ∷ Sails (pos 880) ∷ Sails (pos 880) ∷ TidesEnd ∷ []) slot TidesEnd

abbrev pub heights : ℕ → ℤ
heights slot = slice_index_or (pos 3 ∷ pos 5 ∷ pos 2 ∷ pos 5 ∷ pos 2 ∷ []) slot (pos 0)

-- what these definitions say of them
pub record WindowRows : Type 0 where
  -- the bar lets the ship out with more and more
  pub first_slot : status_in (example_port (pos 1_150)) tide 0 0 ≡ Sails (pos 1_080)
  pub full : status_in (example_port (pos 1_150)) tide 0 2 ≡ Sails (pos 1_150)
  pub low_water : status_in (example_port (pos 1_150)) tide 0 4 ≡ Shallow (pos 1_040)
  -- the ship is at its berth in slot 7
  pub ended : status_in (example_port (pos 1_150)) tide 1 5 ≡ TidesEnd
  -- runs, with one slot between two of one kind
  pub four_runs : runs listed 0 6 ≡ record { first = 0; last = 1 } ∷ record { first = 2; last = 2 } ∷ record { first = 3; last = 4 } ∷ record { first = 5; last = 5 } ∷ []
  pub from_the_second : runs listed 1 2 ≡ record { first = 1; last = 1 } ∷ record { first = 2; last = 2 } ∷ []
  pub none : runs listed 3 0 ≡ []
  -- the first of two slots with the same draft
  pub greatest : deepest heights 0 4 ≡ 1
  pub least : lightest heights 0 4 ≡ 2
  pub of_the_last_two : lightest heights 3 1 ≡ 4
  -- passes
  pub bar_limits : option_map (λ m. m.waypoint) (limiting (example_port (pos 1_150)) tide 0 4) ≡ Some 1
  pub berth_is_last : last_pass gull.route ≡ record { waypoint = 0; offset = 2 }
  -- a draft below 0
  pub aground : shallow_line (record { first = 3; last = 5 }) (pos 900) (negsuc 9) (codes "Mud") ≡ codes "shallow 3 5 needs 900 at most -10 Mud\n"
  -- the whole report
  pub report : windows_text (example_port (pos 1_150)) tide ≡ codes "ship 0 Ada\nfrom 0 0 to 3 90 draft 1080 1150 full\nshallow 4 4 needs 1050 at most 1040 Bar\nship 1 Gull\nshallow 1 1 needs 1100 at most 1080 Bar\nfrom 2 60 to 4 120 draft 1100 1100 full\ntides end 5 5 needs slot 7 Berth\nend\n"
  -- a deeper ship, whose full draft the bar never lets out
  pub kept_back : ship_windows_text (example_port (pos 1_170)) tide 0 (ada (pos 1_170)) ≡ codes "ship 0 Ada\nfrom 0 0 to 3 90 draft 1080 1160 short\nshallow 4 4 needs 1050 at most 1040 Bar\n"
  -- a tide table that ends early
  pub short_table : windows_text (example_port (pos 1_150)) short_tide ≡ codes "ship 0 Ada\nfrom 0 0 to 0 0 draft 1080 1080 short\ntides end 1 4 needs slot 5 Bar\nship 1 Gull\ntides end 1 5 needs slot 7 Berth\nend\n"
  -- closed slots: in slot 1 the ship would be over the bar in slot 2; in slot 4 the port is closed, whatever the water
  pub bar_closed : status_in shut_port tide 0 1 ≡ Closed
  pub port_closed : status_in shut_port tide 0 4 ≡ Closed
  pub shut_report : windows_text shut_port tide ≡ codes "ship 0 Ada\nfrom 0 0 to 0 0 draft 1080 1080 short\nclosed 1 1\nfrom 2 60 to 3 90 draft 1120 1150 full\nclosed 4 4\nship 1 Gull\nshallow 1 1 needs 1100 at most 1080 Bar\nclosed 2 2\nfrom 3 90 to 3 90 draft 1100 1100 full\nclosed 4 4\ntides end 5 5 needs slot 7 Berth\nend\n"
  -- the lesser heights: the ship that sails in slot 3 is over the bar in slot 4, whose water falls from 220 to 140
  pub least_report : windows_text least_port tide ≡ codes "ship 0 Ada\nfrom 0 0 to 2 60 draft 1080 1140 short\nshallow 3 4 needs 1050 at most 1040 Bar\nship 1 Gull\nshallow 1 1 needs 1100 at most 1080 Bar\nfrom 2 60 to 3 90 draft 1100 1100 full\ntides end 4 5 needs slot 8 Berth\nend\n"
