-- The inputs of an audit, one after another.
use Rattle.std.proofs.Common.{◌≡◌, ◌∙◌, ℕ, List, [], ◌∷◌, length, All, Option, None, Result, Ok, Err, refl, ap, subst}
use Rattle.std.specs.Prelude.{◌<◌, IfSome}
use Rattle.hw_model.specs.Problem.{Problem, IsTimetable, shape_of}
use Rattle.hw_desk.specs.State.{DeskState}
use Rattle.hw_desk.specs.declared.desk.Feed.TheVariants.{Instance, Tides, Plan, Events}
use Rattle.hw_port.specs.Whole.{Parts}
use Rattle.hw_tide.specs.Levels.{TideParts}
use Rattle.hw_port_model.specs.Flattened.{flattened}
use Rattle.hw_port_model.specs.Numbers.{whole}
use Rattle.hw_port_model.specs.Timetables.{IsPortTimetable}
use Rattle.hw_report.specs.Reports.{bad_text}
use Rattle.hw_plan_texts.specs.Reading.{malformed_line}
use Rattle.hw_audit.specs.Text.{timetable_of_text, events_text}
use Rattle.hw_audit.specs.Watching.{watched}
use Rattle.hw_audit.specs.Words.{audit_word_text}
use Rattle.hw_audit.specs.declared.event.PortEvent.{PortEvent}
use Rattle.hw_audit.specs.declared.fault.AuditWord.{AuditWord}
use Rattle.hw_audit.proofs.Begun.{to_port}
use Rattle.hw_command.specs.Inputs.{StopsFor}
use Rattle.hw_command.specs.PortInputs.{ReadsPortProblem}
use Rattle.hw_command.specs.Scope.{named_feed, Entered, GiveBefore}
use Rattle.hw_command.specs.Values.{IsPortOf}
use Rattle.hw_command.specs.Works.{StopsReading}
use Rattle.hw_command.proofs.Begun.{entered_on, input_stops, refuses}
use Rattle.hw_command.proofs.PortForms.{port_given, gives_tide}
use Rattle.hw_command_audit.specs.Days.{StopsAtDay, day_inputs}
use Rattle.hw_command_audit.specs.Refusals.{EventsFail, by_form, NoDay}
use Rattle.hw_command_audit.specs.Reading.{ReadsAs, ReadsText, report_of_text}
use Rattle.hw_command_audit.specs.Values.{IsPlannedTimetable, AreEventsOf, GivesPlan, AuditGives}
use Rattle.hw_command_audit.specs.declared.reading.TextStop.{TextStop}
use Rattle.hw_command_audit.specs.declared.reading.TextStop.TheVariants.{Input, Line}

-- ---- the port, and then the plan

-- a port with its tide, and a timetable of the port, were read
pub record PlanRead (instance tides plan : List ℕ) (x y : DeskState) (p : Parts) (h : TideParts) (table : List ℕ) : Type 0 where
  pub entered : Entered (named_feed Instance instance ∷ named_feed Tides tides ∷ named_feed Plan plan ∷ []) x y
  pub read_faults : y.read_faults ≡ x.read_faults
  pub port : IsPortOf (x.held instance) (x.held tides) p h
  pub planned : IsPlannedTimetable (x.held plan) p h table

-- a timetable of the flat problem is one of the port
pub port_table : {p : Parts} {f : Problem} (h : TideParts) (table : List ℕ) → f ≡ flattened p h → length table ≡ (shape_of f).ships → All (λ slot. slot < (shape_of f).slots) table → IsPortTimetable p table
port_table {p = p} {f = f} h table same ships slots = to_port p h table (subst (λ (q : Problem). IsTimetable q table) same (record { each_ship = ships; each_slot = slots }))

-- the plan was begun
plan_entered : {instance tides plan : List ℕ} {x y z : DeskState} {p : Parts} {h : TideParts} {f : Problem} {r : Result (List ℕ) TextStop} → ReadsPortProblem instance tides x y p h f → ReadsText Plan (timetable_of_text (shape_of f)) plan y z r
    → Entered (named_feed Instance instance ∷ named_feed Tides tides ∷ named_feed Plan plan ∷ []) x z
plan_entered {instance = instance} {tides = tides} read m = entered_on (named_feed Instance instance ∷ named_feed Tides tides ∷ []) read.entered m.enters refl

-- what is held is as it was before the port was read
plan_held : {instance tides : List ℕ} {x y : DeskState} {p : Parts} {h : TideParts} {f : Problem} (name : List ℕ) → ReadsPortProblem instance tides x y p h f → y.held name ≡ x.held name
plan_held name read = ap (λ held. held name) read.entered.begins.held

pub plan_read : {instance tides plan : List ℕ} {x y z : DeskState} {p : Parts} {h : TideParts} {f : Problem} {table : List ℕ} → ReadsPortProblem instance tides x y p h f → ReadsText Plan (timetable_of_text (shape_of f)) plan y z (Ok table) → length table ≡ (shape_of f).ships → All (λ slot. slot < (shape_of f).slots) table
    → PlanRead instance tides plan x z p h table
plan_read {plan = plan} {x = x} {p = p} {h = h} {f = f} {table = table} read m ships slots = record {
  entered = plan_entered read m;
  read_faults = m.answer.1 ∙ read.read_faults;
  port = read.port;
  planned = record {
    listed = port_table h table read.problem ships slots;
    reads = subst (λ (q : Problem). IfSome (x.held plan) (ReadsAs (timetable_of_text (shape_of q)) (Ok table))) read.problem (subst (λ (told : Option (List ℕ)). IfSome told (ReadsAs (timetable_of_text (shape_of f)) (Ok table))) (plan_held plan read) m.answer.0);
  };
}

-- the plan gives no timetable
pub plan_stops : {instance tides plan : List ℕ} {x y z : DeskState} {p : Parts} {h : TideParts} {f : Problem} (events : List ℕ) (stop : TextStop) → ReadsPortProblem instance tides x y p h f → ReadsText Plan (timetable_of_text (shape_of f)) plan y z (Err stop)
    → StopsReading (named_feed Instance instance ∷ named_feed Tides tides ∷ named_feed Plan plan ∷ []) (AuditGives instance tides plan x.held) (NoDay (x.held instance) (x.held tides) (x.held plan) (x.held events)) x z (report_of_text Plan stop)
plan_stops {instance = instance} {tides = tides} {plan = plan} {y = y} {z = z} events (Input stop) read m =
    input_stops y (named_feed Instance instance ∷ named_feed Tides tides ∷ []) Plan plan [] stop (λ long. (gives_tide read, long)) refl (plan_entered read m) (port_given read, (gives_tide read, tt)) read.read_faults (subst (λ (told : Option (List ℕ)). StopsFor told y z stop) (plan_held plan read) m.answer)
plan_stops {instance = instance} {tides = tides} {plan = plan} {x = x} {p = p} {h = h} {f = f} events (Line number word) read m = record {
  works = refuses None (named_feed Instance instance ∷ named_feed Tides tides ∷ []) (named_feed Plan plan) [] (bad_text Plan number (audit_word_text word)) refl refl (plan_entered read m) (port_given read, (gives_tide read, tt)) (m.answer.1 ∙ read.read_faults);
  early = λ e. absurd (cc);
  why = λ own. record {
    port = p;
    tide = h;
    gives = read.port;
    cause = word;
    named = refl;
    reads = subst (λ (q : Problem). IfSome (x.held plan) (ReadsAs (timetable_of_text (shape_of q)) (malformed_line number word))) read.problem (subst (λ (told : Option (List ℕ)). IfSome told (ReadsAs (timetable_of_text (shape_of f)) (malformed_line number word))) (plan_held plan read) m.answer.0);
  };
}

-- ---- the events

-- what the three give
gives_plan : {instance tides plan : List ℕ} {x y : DeskState} {p : Parts} {h : TideParts} {table : List ℕ} → PlanRead instance tides plan x y p h table → GivesPlan (x.held instance) (x.held tides) (x.held plan)
gives_plan {p = p} {h = h} {table = table} read = record { port = p; tide = h; reads = read.port; table = table; planned = read.planned }

three_give : {instance tides plan : List ℕ} {x y : DeskState} {p : Parts} {h : TideParts} {table : List ℕ} (events : List ℕ) → PlanRead instance tides plan x y p h table → GiveBefore (AuditGives instance tides plan x.held) (day_inputs instance tides plan events)
three_give {p = p} {h = h} events read = (record { port = p; kept = read.port.kept; reads = read.port.instance_reads }, (record { port = p; tide = h; reads = read.port }, (gives_plan read, tt)))

events_entered : {instance tides plan events : List ℕ} {x y z : DeskState} {p : Parts} {h : TideParts} {table : List ℕ} {r : Result (List PortEvent) TextStop} → PlanRead instance tides plan x y p h table → ReadsText Events events_text events y z r
    → Entered (day_inputs instance tides plan events) x z
events_entered {instance = instance} {tides = tides} {plan = plan} read m = entered_on (named_feed Instance instance ∷ named_feed Tides tides ∷ named_feed Plan plan ∷ []) read.entered m.enters refl

events_held : {instance tides plan : List ℕ} {x y : DeskState} {p : Parts} {h : TideParts} {table : List ℕ} (name : List ℕ) → PlanRead instance tides plan x y p h table → y.held name ≡ x.held name
events_held name read = ap (λ held. held name) read.entered.begins.held

-- they were read to their end
pub record EventsRead (instance tides plan events : List ℕ) (x y : DeskState) (p : Parts) (h : TideParts) (table : List ℕ) : Type 0 where
  pub entered : Entered (day_inputs instance tides plan events) x y
  pub give : GiveBefore (AuditGives instance tides plan x.held) (day_inputs instance tides plan events)
  pub read_faults : y.read_faults ≡ x.read_faults
  pub port : IsPortOf (x.held instance) (x.held tides) p h
  pub planned : IsPlannedTimetable (x.held plan) p h table

pub events_read : {instance tides plan events : List ℕ} {x y z : DeskState} {p : Parts} {h : TideParts} {table : List ℕ} {r : Result (List PortEvent) TextStop} → PlanRead instance tides plan x y p h table → ReadsText Events events_text events y z r → z.read_faults ≡ y.read_faults
    → EventsRead instance tides plan events x z p h table
events_read {events = events} read m kept = record {
  entered = events_entered read m;
  give = three_give events read;
  read_faults = kept ∙ read.read_faults;
  port = read.port;
  planned = read.planned;
}

pub events_told : {instance tides plan events : List ℕ} {x y z : DeskState} {p : Parts} {h : TideParts} {table : List ℕ} {happened : List PortEvent} → PlanRead instance tides plan x y p h table → ReadsText Events events_text events y z (Ok happened) → AreEventsOf (x.held events) happened
events_told {events = events} {happened = happened} read m = subst (λ (told : Option (List ℕ)). AreEventsOf told happened) (events_held events read) m.answer.0

-- a line of theirs is bad, or its event is refused
pub bad_event : {instance tides plan events : List ℕ} {x y : DeskState} {p : Parts} {h : TideParts} {table : List ℕ} (number : ℕ) (word : AuditWord) → EventsRead instance tides plan events x y p h table → EventsFail (flattened p h) (whole p.fleet) (watched table) (x.held events) number word
    → StopsAtDay instance tides plan events x y (bad_text Events number (audit_word_text word))
bad_event {instance = instance} {tides = tides} {plan = plan} {events = events} {p = p} {h = h} {table = table} number word read fail = record {
  works = refuses None (named_feed Instance instance ∷ named_feed Tides tides ∷ named_feed Plan plan ∷ []) (named_feed Events events) [] (bad_text Events number (audit_word_text word)) refl refl read.entered read.give read.read_faults;
  early = λ e. absurd (cc);
  why = λ own. record {
    port = p;
    tide = h;
    gives = read.port;
    table = table;
    planned = read.planned;
    cause = word;
    named = refl;
    fail = fail;
  };
}

-- they can't be read
pub events_stop : {instance tides plan events : List ℕ} {x y z : DeskState} {p : Parts} {h : TideParts} {table : List ℕ} (stop : TextStop) → PlanRead instance tides plan x y p h table → ReadsText Events events_text events y z (Err stop) → StopsAtDay instance tides plan events x z (report_of_text Events stop)
events_stop {instance = instance} {tides = tides} {plan = plan} {events = events} {y = y} {z = z} (Input stop) read m =
    input_stops y (named_feed Instance instance ∷ named_feed Tides tides ∷ named_feed Plan plan ∷ []) Events events [] stop (λ long. (gives_plan read, long)) refl (events_entered read m) (three_give events read) read.read_faults (subst (λ (told : Option (List ℕ)). StopsFor told y z stop) (events_held events read) m.answer)
events_stop {events = events} (Line number word) read m = bad_event number word (events_read read m m.answer.1) (by_form (subst (λ (told : Option (List ℕ)). IfSome told (ReadsAs events_text (malformed_line number word))) (events_held events read) m.answer.0))
