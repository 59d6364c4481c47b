-- `carry port INSTANCE TIDES PLAN EVENTS`: the plan of a repair that a port's timetable and the events of a day so far give.
use Rattle.std.specs.Prelude.{◌↔◌, ℕ, List, [], ◌∷◌}
use Rattle.hw_model.specs.Problem.{Problem}
use Rattle.hw_port.specs.Whole.{Parts}
use Rattle.hw_tide.specs.Levels.{TideParts}
use Rattle.hw_port_model.specs.Flattened.{flattened}
use Rattle.hw_port_model.specs.Permitted.{PortPermits}
use Rattle.hw_report.specs.Reports.{Report, whole_text}
use Rattle.hw_audit.specs.Laws.{fewer_tugs}
use Rattle.hw_audit.specs.Watching.{Watched, watched, after_all}
use Rattle.hw_audit.specs.declared.event.PortEvent.{PortEvent}
use Rattle.hw_repair.specs.Wishes.{PermitsPlan}
use Rattle.hw_repair.specs.Written.{written_plan}
use Rattle.hw_audit.specs.Carried.{carried_plan, KeepsDay}
use Rattle.hw_command.specs.Carries.{Task}
use Rattle.hw_command_audit.specs.Days.{DayAnswer, day_task}

-- a timetable meets the plan exactly where the port, with the tugs that are left, permits it, and it keeps the day
abbrev pub IsPlanOfDay : Parts → TideParts → List ℕ → List PortEvent → Type 0
IsPlanOfDay p h table events = (other : List ℕ)
    → let s = after_all (watched table) events in (PermitsPlan (flattened p h) (carried_plan table s) other ↔ (PortPermits (fewer_tugs s.withdrawn p) h other × KeepsDay table s other))

-- the one report of `carry`: the text of the plan that the events give
abbrev pub carry_reports : Problem → Watched → List PortEvent → List Report
carry_reports f s events = whole_text (written_plan (carried_plan s.table (after_all s events))) ∷ []

-- what `carry` answers of a day
abbrev pub carry_answer : DayAnswer
carry_answer = record { reports = carry_reports; Means = IsPlanOfDay }

abbrev pub carry_port_task : List ℕ → List ℕ → List ℕ → List ℕ → Task
carry_port_task instance tides plan events = day_task carry_answer instance tides plan events
