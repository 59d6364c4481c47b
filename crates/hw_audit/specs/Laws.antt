-- The laws of a timetable that is watched.
use Rattle.std.specs.Prelude.{◌≡◌, ◌↔◌, ℕ, ◌-◌, ◌<◌, pos, false, List, [], None, Contains}
use Rattle.std.specs.List.Sorted.{IsStrictlyIncreasing}
use Rattle.hw_plan_texts.specs.Fleets.{lessened}
use Rattle.hw_model.specs.Problem.{Problem, IsTimetable}
use Rattle.hw_model.specs.Limits.{IsFlat}
use Rattle.hw_model.specs.Timetables.{Permits, restriction_count, restriction_holds}
use Rattle.hw_port.specs.Kept.{PortKept}
use Rattle.hw_port.specs.Whole.{Parts}
use Rattle.hw_tide.specs.Levels.{TideParts}
use Rattle.hw_port_model.specs.Flattened.{flattened}
use Rattle.hw_port_model.specs.Numbers.{whole}
use Rattle.hw_port_model.specs.Permitted.{PortPermits}
use Rattle.hw_port_model.specs.Timetables.{IsPortTimetable}
use Rattle.hw_audit.specs.declared.event.PortEvent.{PortEvent}
use Rattle.hw_audit.specs.Watching.{Watched, watched, IsWatched, refused_event, watched_after, after_all, first_refused, broken_now}

-- a state keeps its limits through an event that is taken
abbrev pub TakenKeeps : Type 0
TakenKeeps = (f : Problem) (fleet : ℕ) (s : Watched) (event : PortEvent) → IsWatched f fleet s → refused_event f fleet s event ≡ None → IsWatched f fleet (watched_after s event)

-- the same of a list of events that are all taken
abbrev pub AllTakenKeep : Type 0
AllTakenKeep = (f : Problem) (fleet place : ℕ) (s : Watched) (events : List PortEvent) → IsWatched f fleet s → first_refused f fleet place s events ≡ None → IsWatched f fleet (after_all s events)

-- ---- the flat problem

-- the problem with fewer tugs keeps the limits of a flat problem
abbrev pub LessenedFits : Type 0
LessenedFits = (f : Problem) (withdrawn : ℕ) → IsFlat f → IsFlat (lessened withdrawn f)

-- what is broken ascends, and it is just the restrictions that don't hold with the tugs that are left
abbrev pub BrokenExactly : Type 0
BrokenExactly = (f : Problem) (s : Watched)
    → IsStrictlyIncreasing (broken_now f s) × ((n : ℕ) → (Contains (broken_now f s) n ↔ ((n < restriction_count f) × (restriction_holds (lessened s.withdrawn f) s.table n ≡ false))))

-- nothing is broken exactly where the timetable is permitted with the tugs that are left
abbrev pub NoneBroken : Type 0
NoneBroken = (f : Problem) (s : Watched) → IsTimetable f s.table → ((broken_now f s ≡ []) ↔ Permits (lessened s.withdrawn f) s.table)

-- before any event that is: exactly where it is permitted
abbrev pub NoneBrokenFirst : Type 0
NoneBrokenFirst = (f : Problem) (table : List ℕ) → IsTimetable f table → ((broken_now f (watched table) ≡ []) ↔ Permits f table)

-- ---- the port

-- a list of slots is a timetable of a port exactly where it is one of its flat problem
abbrev pub SameTimetables : Type 0
SameTimetables = (p : Parts) (h : TideParts) (table : List ℕ) → (IsPortTimetable p table ↔ IsTimetable (flattened p h) table)

-- the port with this many tugs fewer in its fleet
abbrev pub fewer_tugs : ℕ → Parts → Parts
fewer_tugs withdrawn p = record p { fleet = pos (whole p.fleet - withdrawn) }

-- nothing is broken exactly where the port, its fleet lessened by the tugs withdrawn, permits the timetable
abbrev pub NonePortBroken : Type 0
NonePortBroken = (p : Parts) (h : TideParts) (s : Watched) → PortKept p → IsPortTimetable p s.table → ((broken_now (flattened p h) s ≡ []) ↔ PortPermits (fewer_tugs s.withdrawn p) h s.table)

-- the same after any events that were all taken, from a timetable of the port on
abbrev pub NonePortBrokenAfter : Type 0
NonePortBrokenAfter = (p : Parts) (h : TideParts) (place : ℕ) (table : List ℕ) (events : List PortEvent) → PortKept p → IsPortTimetable p table
    → first_refused (flattened p h) (whole p.fleet) place (watched table) events ≡ None
    → let s = after_all (watched table) events in ((broken_now (flattened p h) s ≡ []) ↔ PortPermits (fewer_tugs s.withdrawn p) h s.table)
