-- `audit port INSTANCE TIDES PLAN EVENTS`: watches a port's plan through events.
use Rattle.std.specs.Prelude.{◌≡◌, ◌↔◌, ◌+◌, ◌≤◌, ℕ, List, [], ◌∷◌, ◌++◌, length, map, take}
use Rattle.std.specs.List.{range_with_len}
use Rattle.hw_model.specs.Problem.{Problem}
use Rattle.hw_port.specs.Whole.{Parts}
use Rattle.hw_tide.specs.Levels.{TideParts}
use Rattle.hw_port_model.specs.Flattened.{flattened}
use Rattle.hw_port_model.specs.Permitted.{PortPermits}
use Rattle.hw_report.specs.Reports.{Report, after, audit_end}
use Rattle.hw_audit.specs.Audits.{Audited}
use Rattle.hw_audit.specs.Laws.{fewer_tugs}
use Rattle.hw_audit.specs.Watching.{Watched, watched, watched_after as after_event, after_all, broken_now}
use Rattle.hw_audit.specs.declared.event.PortEvent.{PortEvent}
use Rattle.hw_command.specs.Carries.{Task}
use Rattle.hw_command_audit.specs.Days.{DayAnswer, day_task}

-- the state after the first n events
abbrev pub state_after : Watched → List PortEvent → ℕ → Watched
state_after s events n = after_all s (take n events)

-- the restrictions broken after the first n events
abbrev pub line_after : Problem → Watched → List PortEvent → ℕ → Report
line_after f s events n = after n (broken_now f (state_after s events n))

-- the restrictions broken after one more event
abbrev pub broken_after : Audited → PortEvent → List ℕ
broken_after a event = broken_now a.problem (after_event a.state event)

-- what is printed: a line for each number of events, from none to all of them, and the end
abbrev pub audit_reports : Problem → Watched → List PortEvent → List Report
audit_reports f s events = map (line_after f s events) (range_with_len 0 (length events + 1)) ++ audit_end ∷ []

-- nothing is broken after the first n events exactly if the port, with the tugs that are left, permits the timetable of that time
abbrev pub TellsOfPort : Parts → TideParts → List ℕ → List PortEvent → Type 0
TellsOfPort p h table events = (n : ℕ) → n ≤ length events
    → let s = state_after (watched table) events n in ((broken_now (flattened p h) s ≡ []) ↔ PortPermits (fewer_tugs s.withdrawn p) h s.table)

-- what `audit` answers of a day
abbrev pub audit_answer : DayAnswer
audit_answer = record { reports = audit_reports; Means = TellsOfPort }

abbrev pub audit_port_task : List ℕ → List ℕ → List ℕ → List ℕ → Task
audit_port_task instance tides plan events = day_task audit_answer instance tides plan events
