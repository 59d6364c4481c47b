-- What the inputs of an audit give.
use Rattle.std.specs.Prelude.{◌≡◌, ℕ, List, Option, None, Ok, IfSome}
use Rattle.hw_model.specs.Problem.{shape_of}
use Rattle.hw_desk.specs.declared.desk.Feed.{Feed}
use Rattle.hw_desk.specs.declared.desk.Feed.TheVariants.{Instance, Tides, Plan}
use Rattle.hw_port.specs.Whole.{Parts}
use Rattle.hw_tide.specs.Levels.{TideParts}
use Rattle.hw_port_model.specs.Flattened.{flattened}
use Rattle.hw_port_model.specs.Numbers.{whole}
use Rattle.hw_port_model.specs.Timetables.{IsPortTimetable}
use Rattle.hw_audit.specs.Text.{timetable_of_text, events_text}
use Rattle.hw_audit.specs.Watching.{watched, first_refused}
use Rattle.hw_audit.specs.declared.event.PortEvent.{PortEvent}
use Rattle.hw_command.specs.Values.{IsPortOf, GivesPort, GivesTide}
use Rattle.hw_command_audit.specs.Reading.{ReadsAs}

-- a timetable of the port, that of the plan where it is told
pub record IsPlannedTimetable (plan : Option (List ℕ)) (p : Parts) (h : TideParts) (table : List ℕ) : Type 0 where
  pub listed : IsPortTimetable p table
  pub reads : IfSome plan (ReadsAs (timetable_of_text (shape_of (flattened p h))) (Ok table))

-- events, those of their text where it is told
abbrev pub AreEventsOf : Option (List ℕ) → List PortEvent → Type 0
AreEventsOf text events = IfSome text (ReadsAs events_text (Ok events))

-- the instance gives a port, the table the port's tide, and the plan a timetable of the port
pub record GivesPlan (instance tides plan : Option (List ℕ)) : Type 0 where
  pub port : Parts
  pub tide : TideParts
  pub reads : IsPortOf instance tides port tide
  pub table : List ℕ
  pub planned : IsPlannedTimetable plan port tide table

-- the four texts give a day: a port with its tide, a timetable of it, and events that are all taken after that, each as its text says, if that is told
pub record GivesDay (instance tides plan events : Option (List ℕ)) : Type 0 where
  pub port : Parts
  pub tide : TideParts
  pub reads : IsPortOf instance tides port tide
  pub table : List ℕ
  pub planned : IsPlannedTimetable plan port tide table
  pub happened : List PortEvent
  pub told : AreEventsOf events happened
  pub taken : first_refused (flattened port tide) (whole port.fleet) 2 (watched table) happened ≡ None

-- what an input gives before a further one is begun: the instance its port, the tide table the port's tide, and the plan a timetable of the port. After the events none is begun
abbrev pub AuditGives : List ℕ → List ℕ → List ℕ → (List ℕ → Option (List ℕ)) → Feed → Type 0
AuditGives instance tides plan held Instance = GivesPort (held instance)
AuditGives instance tides plan held Tides = GivesTide (held instance) (held tides)
AuditGives instance tides plan held Plan = GivesPlan (held instance) (held tides) (held plan)
AuditGives instance tides plan held feed = ⊥
