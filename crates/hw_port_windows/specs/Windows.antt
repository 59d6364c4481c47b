-- The report of when each ship of a port may sail, and why not.
use Rattle.std.specs.Prelude.{◌≡◌, ◌<◌, ℕ, ◌+◌, ℤ, List, [], ◌∷◌, ◌++◌, Option, codes, length}
use Rattle.std.specs.Ordering.{int_eq}
use Rattle.hw_port.specs.Kept.{ShipKept}
use Rattle.hw_port.specs.Parts.{ShipParts}
use Rattle.hw_port.specs.Whole.{Parts}
use Rattle.hw_tide.specs.Levels.{TideParts}
use Rattle.hw_port_model.specs.Numbers.{whole}
use Rattle.hw_draft.specs.LastPasses.{judging_slot, last_pass}
use Rattle.hw_draft.specs.Passages.{limit_name, limiting, waypoint_name}
use Rattle.hw_draft.specs.declared.passage.Passage.{Passage}
use Rattle.hw_port_windows.specs.declared.status.Status.{Status}
use Rattle.hw_port_windows.specs.declared.status.Status.TheVariants.{Sails, Closed, Shallow, TidesEnd}
use Rattle.hw_port_windows.specs.declared.run.Run.{Run}
use Rattle.hw_port_windows.specs.Statuses.{status_draft, full_draft, status_in}
use Rattle.hw_port_windows.specs.Runs.{deepest_in, lightest_in, runs_within}
use Rattle.hw_port_windows.specs.Lines.{closed_line, sails_line, shallow_line, window_ship_line, tides_line}

-- a ship of a port, its number, and the tide: of this it is asked when it may sail
pub record AskedParts : Type 0 where
  pub port : Parts
  pub tide : TideParts
  pub number : ℕ
  pub ship : ShipParts

-- the number is that of a ship, the ship keeps the port's rules, and the tide has a column for each waypoint
pub record IsAsked (a : AskedParts) : Type 0 where
  pub numbered : a.number < length a.port.ships
  pub kept : ShipKept a.port a.ship
  pub columns : a.tide.columns ≡ length a.port.waypoints

-- how the ship fares, slot by slot, and with which draft
abbrev pub statuses : AskedParts → ℕ → Status
statuses a = status_in a.port a.tide a.number

abbrev pub drafts : AskedParts → ℕ → ℤ
drafts a = status_draft a.port a.tide a.number

-- the least and the greatest draft in a run
abbrev pub least_draft : AskedParts → Run → ℤ
least_draft a run = drafts a (lightest_in (drafts a) run)

abbrev pub greatest_draft : AskedParts → Run → ℤ
greatest_draft a run = drafts a (deepest_in (drafts a) run)

-- the pass that limits the draft in the slot of a run in which the water allows the most
abbrev pub shallowest : AskedParts → Run → Option Passage
shallowest a run = limiting a.port a.tide a.number (deepest_in (drafts a) run)

-- a run in which the ship may sail: whether it does so with its full draft, somewhere in the run
abbrev pub sails_in : AskedParts → Run → List ℕ
sails_in a run = sails_line run (whole a.port.slot_minutes) (least_draft a run) (greatest_draft a run) (int_eq (greatest_draft a run) (full_draft a.ship))

-- a run in which the water is too shallow for it
abbrev pub shallow_in : AskedParts → Run → List ℕ
shallow_in a run = shallow_line run a.ship.light (greatest_draft a run) (limit_name a.port (shallowest a run))

-- a run in which it makes a pass after the end of the tide table
abbrev pub ended_in : AskedParts → Run → List ℕ
ended_in a run = tides_line run (judging_slot a.port run.last (last_pass a.ship.route)) (waypoint_name a.port ((last_pass a.ship.route).waypoint))

-- the line of a run, by the status of its slots
abbrev pub line_of_kind : AskedParts → Run → Status → List ℕ
line_of_kind a run (Sails draft) = sails_in a run
line_of_kind a run Closed = closed_line run
line_of_kind a run (Shallow allowed) = shallow_in a run
line_of_kind a run TidesEnd = ended_in a run

abbrev pub run_line : AskedParts → Run → List ℕ
run_line a run = line_of_kind a run (statuses a run.first)

abbrev pub run_lines : AskedParts → List Run → List ℕ
run_lines a [] = []
run_lines a (run ∷ more) = run_line a run ++ run_lines a more

-- the slots for which a ship asks
abbrev pub span_of : ShipParts → Run
span_of s = record { first = whole s.earliest; last = whole s.latest }

-- a ship: its line, and one for each longest run of the slots for which it asks
abbrev pub asked_text : AskedParts → List ℕ
asked_text a = window_ship_line a.number a.ship.name ++ run_lines a (runs_within (statuses a) (span_of a.ship))

abbrev pub ship_windows_text : Parts → TideParts → ℕ → ShipParts → List ℕ
ship_windows_text p h v s = asked_text (record { port = p; tide = h; number = v; ship = s })

-- the ships from this number on
abbrev pub ships_from : Parts → TideParts → ℕ → List ShipParts → List ℕ
ships_from p h v [] = []
ships_from p h v (s ∷ more) = ship_windows_text p h v s ++ ships_from p h (v + 1) more

abbrev pub windows_text : Parts → TideParts → List ℕ
windows_text p h = ships_from p h 0 p.ships ++ codes "end\n"
