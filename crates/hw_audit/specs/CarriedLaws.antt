-- The laws of the plan that a day leaves, after events that were all taken.
use Rattle.std.specs.Prelude.{◌≡◌, ◌↔◌, ℕ, List, None, Ok}
use Rattle.hw_port.specs.Kept.{PortKept}
use Rattle.hw_port.specs.Whole.{Parts}
use Rattle.hw_tide.specs.Levels.{TideParts}
use Rattle.hw_port_model.specs.Flattened.{flattened}
use Rattle.hw_port_model.specs.Numbers.{whole}
use Rattle.hw_port_model.specs.Permitted.{PortPermits}
use Rattle.hw_port_model.specs.Timetables.{IsPortTimetable}
use Rattle.hw_audit.specs.Laws.{fewer_tugs}
use Rattle.hw_audit.specs.Watching.{watched, after_all, first_refused}
use Rattle.hw_audit.specs.declared.event.PortEvent.{PortEvent}
use Rattle.hw_repair.specs.Text.{plan_text}
use Rattle.hw_repair.specs.Wishes.{PermitsPlan}
use Rattle.hw_repair.specs.Written.{written_plan}
use Rattle.hw_audit.specs.Carried.{carried_plan, KeepsDay}

-- a timetable meets the plan exactly where the port, with the tugs that are left, permits it, and it keeps the day
abbrev pub KeepsTheDay : Type 0
KeepsTheDay = (p : Parts) (h : TideParts) (place : ℕ) (table : List ℕ) (events : List PortEvent) (other : List ℕ) → PortKept p → IsPortTimetable p table
    → first_refused (flattened p h) (whole p.fleet) place (watched table) events ≡ None
    → let s = after_all (watched table) events in (PermitsPlan (flattened p h) (carried_plan table s) other ↔ (PortPermits (fewer_tugs s.withdrawn p) h other × KeepsDay table s other))

-- the text of the plan reads as the plan
abbrev pub CarriedReads : Type 0
CarriedReads = (p : Parts) (h : TideParts) (place : ℕ) (table : List ℕ) (events : List PortEvent) → PortKept p → IsPortTimetable p table
    → first_refused (flattened p h) (whole p.fleet) place (watched table) events ≡ None
    → let plan = carried_plan table (after_all (watched table) events) in plan_text (flattened p h) (written_plan plan) ≡ Ok plan
