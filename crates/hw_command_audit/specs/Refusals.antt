-- Why four texts give no day: no port, no timetable of it, no events, or an event that is refused.
use Rattle.std.specs.Prelude.{◌≡◌, ℕ, List, Option, Some, IfSome}
use Rattle.hw_model.specs.Problem.{Problem, shape_of}
use Rattle.hw_desk.specs.declared.desk.Feed.TheVariants.{Plan, Events}
use Rattle.hw_port.specs.Whole.{Parts}
use Rattle.hw_tide.specs.Levels.{TideParts}
use Rattle.hw_port_model.specs.Flattened.{flattened}
use Rattle.hw_port_model.specs.Numbers.{whole}
use Rattle.hw_report.specs.Reports.{Report, bad_text, too_long}
use Rattle.hw_plan_texts.specs.Reading.{malformed_line}
use Rattle.hw_audit.specs.Text.{timetable_of_text, events_text}
use Rattle.hw_audit.specs.Watching.{Watched, watched, first_refused}
use Rattle.hw_audit.specs.Words.{audit_word_text}
use Rattle.hw_audit.specs.declared.event.PortEvent.{PortEvent}
use Rattle.hw_audit.specs.declared.fault.AuditWord.{AuditWord}
use Rattle.hw_command.specs.PortInputs.{NoPort}
use Rattle.hw_command.specs.Values.{IsLong, IsPortOf, GivesTide}
use Rattle.hw_command_audit.specs.Reading.{ReadsAs}
use Rattle.hw_command_audit.specs.Values.{IsPlannedTimetable, AreEventsOf, GivesPlan}

-- the first bad line of the plan
pub record IsBadTimetable (instance tides plan : Option (List ℕ)) (number : ℕ) (word : List ℕ) : Type 0 where
  pub port : Parts
  pub tide : TideParts
  pub gives : IsPortOf instance tides port tide
  pub cause : AuditWord
  pub named : word ≡ audit_word_text cause
  pub reads : IfSome plan (ReadsAs (timetable_of_text (shape_of (flattened port tide))) (malformed_line number cause))

-- the first bad line of the events, or else the line of the first refused event. The first event is line 2
pub data EventsFail (f : Problem) (fleet : ℕ) (s : Watched) (text : Option (List ℕ)) (number : ℕ) (cause : AuditWord) : Type 0 where
  by_form : IfSome text (ReadsAs events_text (malformed_line number cause)) → EventsFail f fleet s text number cause
  by_event : (events : List PortEvent) → AreEventsOf text events → first_refused f fleet 2 s events ≡ Some (number, cause) → EventsFail f fleet s text number cause

pub record AreBadEvents (instance tides plan events : Option (List ℕ)) (number : ℕ) (word : List ℕ) : Type 0 where
  pub port : Parts
  pub tide : TideParts
  pub gives : IsPortOf instance tides port tide
  pub table : List ℕ
  pub planned : IsPlannedTimetable plan port tide table
  pub cause : AuditWord
  pub named : word ≡ audit_word_text cause
  pub fail : EventsFail (flattened port tide) (whole port.fleet) (watched table) events number cause

-- what a report says of four texts that give no day, as far as they are told
abbrev pub NoDay : Option (List ℕ) → Option (List ℕ) → Option (List ℕ) → Option (List ℕ) → Report → Type 0
NoDay instance tides plan events (bad_text Plan number word) = IsBadTimetable instance tides plan number word
NoDay instance tides plan events (bad_text Events number word) = AreBadEvents instance tides plan events number word
NoDay instance tides plan events (too_long Plan) = GivesTide instance tides × IfSome plan IsLong
NoDay instance tides plan events (too_long Events) = GivesPlan instance tides plan × IfSome events IsLong
NoDay instance tides plan events r = NoPort instance tides r
