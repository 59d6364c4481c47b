-- Reading a day: a port, a timetable of it, and events; and what a command over a day has to do.
use Rattle.std.specs.Prelude.{◌≡◌, ◌⊎◌, ℕ, List, [], ◌∷◌, Option, None}
use Rattle.hw_model.specs.Problem.{Problem}
use Rattle.hw_desk.specs.State.{DeskState}
use Rattle.hw_desk.specs.declared.desk.Feed.TheVariants.{Instance, Tides, Plan, Events}
use Rattle.hw_port.specs.Whole.{Parts}
use Rattle.hw_tide.specs.Levels.{TideParts}
use Rattle.hw_port_model.specs.Flattened.{flattened}
use Rattle.hw_report.specs.Reports.{Report}
use Rattle.hw_audit.specs.Audits.{audited}
use Rattle.hw_audit.specs.Watching.{Watched, watched}
use Rattle.hw_audit.specs.declared.event.PortEvent.{PortEvent}
use Rattle.hw_command.specs.Carries.{Task}
use Rattle.hw_command.specs.Scope.{Named, named_feed, Entered, GiveBefore}
use Rattle.hw_command.specs.Works.{StopsReading}
use Rattle.hw_command.specs.declared.port_input.PortNames.{PortNames}
use Rattle.hw_command_audit.specs.Refusals.{NoDay}
use Rattle.hw_command_audit.specs.Values.{GivesDay, AuditGives}
use Rattle.hw_command_audit.specs.declared.day.Day.{Day}

-- ---- reading

-- its inputs, in the order in which they are begun
abbrev pub day_inputs : List ℕ → List ℕ → List ℕ → List ℕ → List Named
day_inputs instance tides plan events = named_feed Instance instance ∷ named_feed Tides tides ∷ named_feed Plan plan ∷ named_feed Events events ∷ []

-- what is kept of a day: its timetable, its events, and the audit before them
abbrev pub day_of : {instance tides plan events : Option (List ℕ)} → GivesDay instance tides plan events → Day
day_of day = record { table = day.table; happened = day.happened; audit = audited day.port day.tide day.table }

-- all inputs were begun and no read failed, and they give this day
pub record ReadsDay (instance tides plan events : List ℕ) (old new : DeskState) (day : Day) : Type 0 where
  pub entered : Entered (day_inputs instance tides plan events) old new
  pub give : GiveBefore (AuditGives instance tides plan old.held) (day_inputs instance tides plan events)
  pub read_faults : new.read_faults ≡ old.read_faults
  pub gives : GivesDay (old.held instance) (old.held tides) (old.held plan) (old.held events)
  pub is : day ≡ day_of gives

-- the same, by the names of a port
abbrev pub ReadsNamedDay : PortNames → List ℕ → List ℕ → DeskState → DeskState → Day → Type 0
ReadsNamedDay names plan events old new day = ReadsDay names.instance.now names.tides.now plan events old new day

-- why there is none
abbrev pub StopsAtDay : List ℕ → List ℕ → List ℕ → List ℕ → DeskState → DeskState → Report → Type 0
StopsAtDay instance tides plan events old new r = StopsReading (day_inputs instance tides plan events) (AuditGives instance tides plan old.held) (NoDay (old.held instance) (old.held tides) (old.held plan) (old.held events)) old new r

abbrev pub StopsAtNamedDay : PortNames → List ℕ → List ℕ → DeskState → DeskState → Report → Type 0
StopsAtNamedDay names plan events old new r = StopsAtDay names.instance.now names.tides.now plan events old new r

-- ---- a command over a day

-- the reports of a problem, the state of a timetable of it, and the events after that
abbrev pub DayReports : Type 0
DayReports = Problem → Watched → List PortEvent → List Report

-- what a command answers: its reports, and what they mean for the port, its tide, the timetable and the events
pub record DayAnswer : Type 1 where
  pub reports : DayReports
  pub Means : Parts → TideParts → List ℕ → List PortEvent → Type 0

-- the four texts give a day, and these are all its reports
pub record AnswersDay (answer : DayAnswer) (instance tides plan events : Option (List ℕ)) (reports : List Report) : Type 0 where
  pub day : GivesDay instance tides plan events
  pub printed : reports ≡ answer.reports (flattened day.port day.tide) (watched day.table) day.happened
  pub means : answer.Means day.port day.tide day.table day.happened

-- one report alone, of why the four texts give no day
abbrev pub TellsNoDay : Option (List ℕ) → Option (List ℕ) → Option (List ℕ) → Option (List ℕ) → List Report → Type 0
TellsNoDay instance tides plan events (r ∷ []) = NoDay instance tides plan events r
TellsNoDay instance tides plan events reports = ⊥

-- what the reports say of the four texts, as far as they are told. If all are told, one list of reports alone holds, apart from out of memory
abbrev pub DaySays : DayAnswer → Option (List ℕ) → Option (List ℕ) → Option (List ℕ) → Option (List ℕ) → List Report → Type 0
DaySays answer instance tides plan events reports = TellsNoDay instance tides plan events reports ⊎ AnswersDay answer instance tides plan events reports

abbrev pub day_task : DayAnswer → List ℕ → List ℕ → List ℕ → List ℕ → Task
day_task answer instance tides plan events = record {
  inputs = day_inputs instance tides plan events;
  Gives = AuditGives instance tides plan;
  proof = None;
  Says = λ old mid reports. DaySays answer (old.held instance) (old.held tides) (old.held plan) (old.held events) reports;
}
