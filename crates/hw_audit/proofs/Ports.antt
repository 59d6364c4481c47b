-- The flat problem of a port with fewer tugs.
use Rattle.std.proofs.Common.{◌≡◌, ◌↔◌, ℕ, ◌-◌, ◌≤◌, pos, List, [], ◌∷◌, ◌++◌, map, refl, sym, ap, ap₂, subst, ◌∙◌, arith}
use Rattle.std.proofs.lemmas.Int.{ints}
use Rattle.std.proofs.lemmas.List.{map-append}
use Rattle.std.proofs.lemmas.List.Elements.{All-weaker}
use Rattle.hw_model.specs.declared.rule.Job.{Job}
use Rattle.hw_model.specs.declared.rule.Rule.{Rule}
use Rattle.hw_model.specs.declared.rule.Rule.TheVariants.{Pair, After, Tugs}
use Rattle.hw_model.specs.Problem.{Problem, IsTimetable}
use Rattle.hw_model.specs.Timetables.{Permits}
use Rattle.hw_plan_texts.specs.Fleets.{lessened_rule, lessened}
use Rattle.hw_port.specs.Kept.{Within, ShipKept, PortKept}
use Rattle.hw_port.specs.Parts.{ShipParts}
use Rattle.hw_port.specs.Whole.{Parts}
use Rattle.hw_tide.specs.Levels.{TideParts}
use Rattle.hw_port_laws.proofs.Permits.{same_permitted_law}
use Rattle.hw_port_laws.proofs.Wholes.{within}
use Rattle.hw_port_model.specs.Flattened.{pairs_from, berth_rule, after_rule, jobs_from, tug_rule, flattened}
use Rattle.hw_port_model.specs.Numbers.{whole}
use Rattle.hw_port_model.specs.Permitted.{PortPermits}
use Rattle.hw_audit.specs.Laws.{fewer_tugs, NonePortBroken, NonePortBrokenAfter}
use Rattle.hw_audit.specs.Watching.{Watched, watched, IsWatched, after_all, broken_now}
use Rattle.hw_audit.proofs.Begun.{of_port, watched_first}
use Rattle.hw_audit.proofs.Broken.{none_broken}
use Rattle.hw_audit.proofs.PortRules.{Each2, all_pairs, all_berths, all_after}
use Rattle.hw_audit.proofs.Taken.{all_taken}

-- ---- rules

-- rules on two ships have no tugs
two_as_they_are : (withdrawn : ℕ) (rules : List Rule) → Each2 rules → map (lessened_rule withdrawn) rules ≡ rules
two_as_they_are withdrawn [] each = refl
two_as_they_are withdrawn (Pair v w holes ∷ rules) each = ap (λ rs. Pair v w holes ∷ rs) (two_as_they_are withdrawn rules each.1)
two_as_they_are withdrawn (After v w gap ∷ rules) each = ap (λ rs. After v w gap ∷ rs) (two_as_they_are withdrawn rules each.1)
two_as_they_are withdrawn (Tugs fleet later jobs ∷ rules) each = absurd each.0

lessened_tugs : (withdrawn fleet : ℕ) (jobs : List Job) → map (lessened_rule withdrawn) (tug_rule fleet jobs) ≡ tug_rule (fleet - withdrawn) jobs
lessened_tugs withdrawn fleet [] = refl
lessened_tugs withdrawn fleet (job ∷ jobs) = refl

lessened_rules : (withdrawn fleet : ℕ) (pairs berths after : List Rule) (jobs : List Job) → Each2 pairs → Each2 berths → Each2 after
    → map (lessened_rule withdrawn) (pairs ++ (berths ++ (after ++ tug_rule fleet jobs))) ≡ pairs ++ (berths ++ (after ++ tug_rule (fleet - withdrawn) jobs))
lessened_rules withdrawn fleet pairs berths after jobs p b a =
    let f = lessened_rule withdrawn in
    map-append f pairs (berths ++ (after ++ tug_rule fleet jobs))
    ∙ ap₂ ◌++◌ (two_as_they_are withdrawn pairs p)
    (map-append f berths (after ++ tug_rule fleet jobs)
    ∙ ap₂ ◌++◌ (two_as_they_are withdrawn berths b)
    (map-append f after (tug_rule fleet jobs)
    ∙ ap₂ ◌++◌ (two_as_they_are withdrawn after a) (lessened_tugs withdrawn fleet jobs)))

-- ---- the problem

-- a problem with other rules
abbrev under_rules : Problem → List Rule → Problem
under_rules f rules = record { ships = f.ships; slots = f.slots; stay = f.stay; values = f.values; rules = rules }

pub lessened_port : (p : Parts) (h : TideParts) (withdrawn : ℕ) → lessened withdrawn (flattened p h) ≡ flattened (fewer_tugs withdrawn p) h
lessened_port p h withdrawn =
    ap (under_rules (flattened p h))
    (lessened_rules withdrawn (whole p.fleet) (pairs_from p 0 p.ships) (map berth_rule p.berths) (map after_rule p.after) (jobs_from p 0 p.ships) (all_pairs p 0 p.ships) (all_berths p.berths) (all_after p.after))

-- ---- the port is still one

ship_kept : (p : Parts) (withdrawn : ℕ) (s : ShipParts) → ShipKept p s → ShipKept (fewer_tugs withdrawn p) s
ship_kept p withdrawn s k = record {
  name = k.name;
  direction = k.direction;
  class = k.class;
  earliest = k.earliest;
  latest = k.latest;
  window = k.window;
  tpc = k.tpc;
  light = k.light;
  deep = k.deep;
  load = k.load;
  passes = k.passes;
  route = k.route;
  stretches = k.stretches;
  channel = k.channel;
  ascends = k.ascends;
  tugs = k.tugs;
  job = k.job;
  closed = k.closed;
}

fewer : (fleet withdrawn : ℕ) → fleet ≤ 1_000 → Within (pos 0) (pos 1_000) (pos (fleet - withdrawn))
fewer fleet withdrawn le = record { low = omega (arith, ints); high = omega (arith, ints, le) }

pub port_kept : (p : Parts) (withdrawn : ℕ) → PortKept p → PortKept (fewer_tugs withdrawn p)
port_kept p withdrawn k = record {
  version = k.version;
  start = k.start;
  slots = k.slots;
  slot_minutes = k.slot_minutes;
  heights = k.heights;
  closed = k.closed;
  waypoint_count = k.waypoint_count;
  waypoints = k.waypoints;
  waypoint_names = k.waypoint_names;
  section_count = k.section_count;
  sections = k.sections;
  section_names = k.section_names;
  class_count = k.class_count;
  separation = k.separation;
  turnaround_outgoing = k.turnaround_outgoing;
  turnaround_incoming = k.turnaround_incoming;
  fleet = fewer (whole p.fleet) withdrawn (within 0 1_000 p.fleet k.fleet).2;
  ship_count = k.ship_count;
  ships = All-weaker (ShipKept p) (ShipKept (fewer_tugs withdrawn p)) (ship_kept p withdrawn) p.ships k.ships;
  ship_names = k.ship_names;
  berth_count = k.berth_count;
  berths = k.berths;
  after_count = k.after_count;
  after = k.after;
}

-- ---- nothing broken

none_of_problem : (p : Parts) (h : TideParts) (s : Watched) → PortKept p → IsTimetable (flattened p h) s.table → ((broken_now (flattened p h) s ≡ []) ↔ PortPermits (fewer_tugs s.withdrawn p) h s.table)
none_of_problem p h s kept listed =
    let flat = none_broken (flattened p h) s listed in
    let port = same_permitted_law (fewer_tugs s.withdrawn p) h s.table (port_kept p s.withdrawn kept) in
    let same = lessened_port p h s.withdrawn in (
      λ none. port.1 (subst (λ g. Permits g s.table) same (flat.0 none)),
      λ permits. flat.1 (subst (λ g. Permits g s.table) (sym same) (port.0 permits)),
    )

pub none_port_broken : NonePortBroken
none_port_broken p h s kept listed = none_of_problem p h s kept (of_port p h s.table listed)

pub none_port_broken_after : NonePortBrokenAfter
none_port_broken_after p h place table events kept listed taken =
    let kept_on : IsWatched (flattened p h) (whole p.fleet) (after_all (watched table) events) =
    all_taken (flattened p h) (whole p.fleet) place (watched table) events (watched_first (flattened p h) (whole p.fleet) table (of_port p h table listed)) taken in
    none_of_problem p h (after_all (watched table) events) kept kept_on.listed
