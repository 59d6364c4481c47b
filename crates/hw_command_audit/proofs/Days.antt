-- Why there is no day: from the stops of its inputs, and of its events.
use Rattle.std.proofs.Common.{ℕ, List, [], ◌∷◌, Option, None, Ok, Err, refl, ap}
use Rattle.hw_desk.specs.State.{DeskState}
use Rattle.hw_desk.specs.declared.desk.Feed.{Feed}
use Rattle.hw_desk.specs.declared.desk.Feed.TheVariants.{Instance, Tides, Plan, Events}
use Rattle.hw_desk.specs.declared.whole.ReadStop.TheVariants.{NoMemory}
use Rattle.hw_port.specs.Whole.{Parts}
use Rattle.hw_tide.specs.Levels.{TideParts}
use Rattle.hw_report.specs.Reports.{Report, no_memory}
use Rattle.hw_audit.specs.Audits.{Audited, audited}
use Rattle.hw_audit.specs.declared.event.PortEvent.{PortEvent}
use Rattle.hw_command.specs.PortInputs.{StopsAtPort}
use Rattle.hw_command.specs.Scope.{named_feed}
use Rattle.hw_command.specs.Values.{PortGives}
use Rattle.hw_command.specs.Works.{StopsReading}
use Rattle.hw_command.proofs.Begun.{wants_memory}
use Rattle.hw_command.proofs.PortForms.{by_fault}
use Rattle.hw_command.proofs.Stops.{further}
use Rattle.hw_command_audit.specs.Days.{ReadsDay, StopsAtDay, day_inputs}
use Rattle.hw_command_audit.specs.Reading.{report_of_text}
use Rattle.hw_command_audit.specs.Refusals.{by_event, NoDay}
use Rattle.hw_command_audit.specs.Trying.{TriesEvents}
use Rattle.hw_command_audit.specs.Values.{AreEventsOf, AuditGives}
use Rattle.hw_command_audit.specs.declared.day.Day.{Day}
use Rattle.hw_command_audit.specs.declared.reading.TextStop.{TextStop}
use Rattle.hw_command_audit.specs.declared.reading.TextStop.TheVariants.{Input, Line}
use Rattle.hw_command_audit.proofs.Inputs.{EventsRead, bad_event}

-- ---- no port, no timetable

port_gives : (instance tides plan : List ℕ) (held : List ℕ → Option (List ℕ)) (feed : Feed) → PortGives instance tides held feed → AuditGives instance tides plan held feed
port_gives instance tides plan held Instance given = given
port_gives instance tides plan held Tides given = given
port_gives instance tides plan held feed given = absurd given

pub port_stops : {x y : DeskState} {r : Report} (instance tides plan events : List ℕ) → StopsAtPort instance tides x y r → StopsAtDay instance tides plan events x y r
port_stops {x = x} {r = r} instance tides plan events h = record {
  works = further (day_inputs instance tides plan events) (named_feed Plan plan ∷ named_feed Events events ∷ []) None refl (port_gives instance tides plan x.held) h.early h.works;
  early = h.early;
  why = λ own. by_fault (x.held instance) (x.held tides) (NoDay (x.held instance) (x.held tides) (x.held plan) (x.held events)) r (λ bad. bad) (λ fault bad. bad) (λ fault bad. bad) (λ bad. bad) (λ bad. bad) (h.why own);
}

pub table_stops : {x y : DeskState} {r : Report} (instance tides plan events : List ℕ)
    → StopsReading (named_feed Instance instance ∷ named_feed Tides tides ∷ named_feed Plan plan ∷ []) (AuditGives instance tides plan x.held) (NoDay (x.held instance) (x.held tides) (x.held plan) (x.held events)) x y r → StopsAtDay instance tides plan events x y r
table_stops instance tides plan events h = record {
  works = further (day_inputs instance tides plan events) (named_feed Events events ∷ []) None refl (λ feed given. given) h.early h.works;
  early = h.early;
  why = h.why;
}

-- ---- an event is refused, or memory ran out

memory_stops : {instance tides plan events : List ℕ} {x y : DeskState} {p : Parts} {h : TideParts} {table : List ℕ} → EventsRead instance tides plan events x y p h table → StopsAtDay instance tides plan events x y no_memory
memory_stops {instance = instance} {tides = tides} {plan = plan} {events = events} read = record {
  works = wants_memory None (day_inputs instance tides plan events) [] refl read.entered read.give read.read_faults;
  early = λ e. absurd (cc);
  why = λ own. absurd (cc);
}

pub trial_stops : {instance tides plan events : List ℕ} {x y : DeskState} {p : Parts} {h : TideParts} {table : List ℕ} (happened : List PortEvent) (stop : TextStop) → EventsRead instance tides plan events x y p h table → AreEventsOf (x.held events) happened → TriesEvents (audited p h table) happened (Err stop)
    → StopsAtDay instance tides plan events x y (report_of_text Events stop)
trial_stops happened (Line number word) read told tries = bad_event number word read (by_event happened told tries)
trial_stops happened (Input NoMemory) read told tries = memory_stops read
trial_stops happened (Input _) read told tries = absurd tries

-- ---- all was read

pub day_read : {instance tides plan events : List ℕ} {x y : DeskState} {p : Parts} {h : TideParts} (day : Day) → EventsRead instance tides plan events x y p h day.table → AreEventsOf (x.held events) day.happened → TriesEvents (audited p h day.table) day.happened (Ok day.audit) → ReadsDay instance tides plan events x y day
day_read {p = p} {h = h} day read told tries = record {
  entered = read.entered;
  give = read.give;
  read_faults = read.read_faults;
  gives = record {
    port = p;
    tide = h;
    reads = read.port;
    table = day.table;
    planned = read.planned;
    happened = day.happened;
    told = told;
    taken = tries.1;
  };
  is = ap (λ (audit : Audited). record { table = day.table; happened = day.happened; audit = audit }) tries.0;
}
