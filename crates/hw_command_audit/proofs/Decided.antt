-- The reports of a command over a day are a function of its files' bytes.
use Rattle.std.proofs.Common.{◌≡◌, ◌≤◌, ◌∙◌, ℕ, List, [], ◌∷◌, length, Option, Some, None, Result, Ok, Err, inl, inr, refl, sym, ap, subst}
use Rattle.std.specs.Prelude.{◌≢◌}
use Rattle.hw_model.specs.Problem.{Problem, shape_of}
use Rattle.hw_desk.specs.declared.desk.Feed.TheVariants.{Instance, Tides, Plan, Events}
use Rattle.hw_port.specs.Whole.{Parts}
use Rattle.hw_read.specs.Instance.{PortReads as ReadsPort}
use Rattle.hw_read.specs.declared.fault.ReadFault.{ReadFault}
use Rattle.hw_read.specs.declared.fault.ReadFault.TheVariants as read
use Rattle.hw_tide.specs.Levels.{TideParts}
use Rattle.hw_tide.specs.Whole.{TideReads as ReadsHeights, tide_by_header, waypoint_names}
use Rattle.hw_tide.specs.declared.fault.TideFault.{TideFault}
use Rattle.hw_tide.specs.declared.fault.TideFault.TheVariants as tide
use Rattle.hw_port_model.specs.Flattened.{flattened}
use Rattle.hw_port_model.specs.Numbers.{whole}
use Rattle.hw_report.specs.Reports.{Report, too_long, bad_json, bad_field, bad_tides, bad_text}
use Rattle.hw_plan_texts.specs.Reading.{MalformedLine}
use Rattle.hw_audit.specs.Text.{timetable_of_text, events_text}
use Rattle.hw_audit.specs.Watching.{Watched, watched, first_refused}
use Rattle.hw_audit.specs.Words.{audit_word_text}
use Rattle.hw_audit.specs.declared.event.PortEvent.{PortEvent}
use Rattle.hw_audit.specs.declared.fault.AuditWord.{AuditWord}
use Rattle.hw_command.specs.PortInputs.{NoPort, IsBadTable}
use Rattle.hw_command.specs.Values.{most_bytes, IsLong, IsPortOf, GivesPort}
use Rattle.hw_command.proofs.OneReading.{Limited, one_instance, one_limited, one_table}
use Rattle.hw_command_audit.specs.Days.{DayReports, DayAnswer, AnswersDay, TellsNoDay, DaySays}
use Rattle.hw_command_audit.specs.Refusals.{EventsFail, by_form, by_event, NoDay}
use Rattle.hw_command_audit.specs.Laws.{OneAnswer}
use Rattle.hw_command_audit.specs.Values.{IsPlannedTimetable}

-- ---- one list of reports

-- no two lists of reports are said
abbrev One : (List Report → Type 0) → Type 0
One Says = (rs others : List Report) → Says rs → Says others → rs ≡ others

-- ---- the events, and before them the plan

abbrev of_trial : DayReports → Problem → Watched → List PortEvent → Option (ℕ × AuditWord) → List Report
of_trial all f s happened None = all f s happened
of_trial all f s happened (Some refusal) = bad_text Events refusal.0 (audit_word_text refusal.1) ∷ []

abbrev of_events : DayReports → Problem → ℕ → Watched → Result (List PortEvent) (MalformedLine AuditWord) → List Report
of_events all f fleet s (Ok happened) = of_trial all f s happened (first_refused f fleet 2 s happened)
of_events all f fleet s (Err bad) = bad_text Events bad.number (audit_word_text bad.word) ∷ []

abbrev EventsSay : DayReports → Parts → TideParts → List ℕ → List ℕ → List Report → Type 0
EventsSay all p h events table rs = Limited events (too_long Events ∷ []) (λ rs. rs ≡ of_events all (flattened p h) (whole p.fleet) (watched table) (events_text events)) rs

abbrev PlanSays : DayReports → Parts → TideParts → List ℕ → Result (List ℕ) (MalformedLine AuditWord) → List Report → Type 0
PlanSays all p h events (Ok table) rs = EventsSay all p h events table rs
PlanSays all p h events (Err bad) rs = rs ≡ bad_text Plan bad.number (audit_word_text bad.word) ∷ []

abbrev LastSays : DayReports → List ℕ → List ℕ → Parts → TideParts → List Report → Type 0
LastSays all plan events p h rs = Limited plan (too_long Plan ∷ []) (PlanSays all p h events (timetable_of_text (shape_of (flattened p h)) plan)) rs

one_equal : (these : List Report) → One (λ rs. rs ≡ these)
one_equal these rs others h g = h ∙ sym g

one_plan : (all : DayReports) (p : Parts) (h : TideParts) (events : List ℕ) (what : Result (List ℕ) (MalformedLine AuditWord)) → One (PlanSays all p h events what)
one_plan all p h events (Ok table) rs others says says_too =
    one_limited events (too_long Events ∷ []) (λ rs. rs ≡ of_events all (flattened p h) (whole p.fleet) (watched table) (events_text events)) (one_equal (of_events all (flattened p h) (whole p.fleet) (watched table) (events_text events))) rs others says says_too
one_plan all p h events (Err bad) rs others says says_too = says ∙ sym says_too

one_last : (all : DayReports) (plan events : List ℕ) (p : Parts) (h : TideParts) → One (LastSays all plan events p h)
one_last all plan events p h rs others says says_too =
    one_limited plan (too_long Plan ∷ []) (PlanSays all p h events (timetable_of_text (shape_of (flattened p h)) plan)) (one_plan all p h events (timetable_of_text (shape_of (flattened p h)) plan)) rs others says says_too

-- ---- the tide table, and before it the instance

-- what is said of a table that is read as this
abbrev TableSays : (TideParts → List Report → Type 0) → Result TideParts TideFault → List Report → Type 0
TableSays Last (Ok h) rs = Last h rs
TableSays Last (Err fault) rs = rs ≡ bad_tides fault ∷ []

record OfTable (table : List ℕ) (Last : TideParts → List Report → Type 0) (p : Parts) (rs : List Report) : Type 0 where
  what : Result TideParts TideFault
  told : what ≢ Err tide.NoMemory
  reads : ReadsHeights table (tide_by_header (waypoint_names p)) what
  says : TableSays Last what rs

-- what is said of an instance that is read as this
abbrev Follows : List ℕ → (Parts → TideParts → List Report → Type 0) → Result Parts ReadFault → List Report → Type 0
Follows table Last (Ok p) rs = Limited table (too_long Tides ∷ []) (OfTable table (Last p) p) rs
Follows table Last (Err read.NotJson) rs = rs ≡ bad_json ∷ []
Follows table Last (Err (read.Field fault)) rs = rs ≡ bad_field fault ∷ []
Follows table Last (Err read.NoMemory) rs = ⊥

record OfInstance (instance table : List ℕ) (Last : Parts → TideParts → List Report → Type 0) (rs : List Report) : Type 0 where
  what : Result Parts ReadFault
  told : what ≢ Err read.NoMemory
  reads : ReadsPort instance what
  follows : Follows table Last what rs

abbrev OfFiles : List ℕ → List ℕ → (Parts → TideParts → List Report → Type 0) → List Report → Type 0
OfFiles instance table Last rs = Limited instance (too_long Instance ∷ []) (OfInstance instance table Last) rs

one_said : (Last : TideParts → List Report → Type 0) → ((h : TideParts) → One (Last h)) → (what : Result TideParts TideFault) → One (TableSays Last what)
one_said Last one (Ok h) rs others says says_too = one h rs others says says_too
one_said Last one (Err fault) rs others says says_too = says ∙ sym says_too

one_of_table : (table : List ℕ) (Last : TideParts → List Report → Type 0) (p : Parts) → ((h : TideParts) → One (Last h)) → One (OfTable table Last p)
one_of_table table Last p one rs others a b =
    let same = one_table table (tide_by_header (waypoint_names p)) b.what a.what b.told a.told b.reads a.reads in
    one_said Last one a.what rs others a.says (subst (λ (what : Result TideParts TideFault). TableSays Last what others) same b.says)

one_follows : (table : List ℕ) (Last : Parts → TideParts → List Report → Type 0) → ((p : Parts) (h : TideParts) → One (Last p h)) → (what : Result Parts ReadFault) → One (Follows table Last what)
one_follows table Last one (Ok p) rs others a b = one_limited table (too_long Tides ∷ []) (OfTable table (Last p) p) (one_of_table table (Last p) p (one p)) rs others a b
one_follows table Last one (Err read.NotJson) rs others a b = a ∙ sym b
one_follows table Last one (Err (read.Field fault)) rs others a b = a ∙ sym b
one_follows table Last one (Err read.NoMemory) rs others a b = absurd a

one_of_instance : (instance table : List ℕ) (Last : Parts → TideParts → List Report → Type 0) → ((p : Parts) (h : TideParts) → One (Last p h)) → One (OfInstance instance table Last)
one_of_instance instance table Last one rs others a b =
    let same = one_instance instance b.what a.what b.told a.told b.reads a.reads in
    one_follows table Last one a.what rs others a.follows (subst (λ (what : Result Parts ReadFault). Follows table Last what others) same b.follows)

one_of_files : (instance table : List ℕ) (Last : Parts → TideParts → List Report → Type 0) → ((p : Parts) (h : TideParts) → One (Last p h)) → One (OfFiles instance table Last)
one_of_files instance table Last one rs others a b = one_limited instance (too_long Instance ∷ []) (OfInstance instance table Last) (one_of_instance instance table Last one) rs others a b

-- ---- what is said of a day is said of its files

of_port : {instance table : List ℕ} {p : Parts} {h : TideParts} (Last : Parts → TideParts → List Report → Type 0) (rs : List Report) → IsPortOf (Some instance) (Some table) p h → Last p h rs → OfFiles instance table Last rs
of_port {p = p} {h = h} Last rs port says = inr (
  port.instance_reads.0,
  record {
    what = Ok p;
    told = λ none. absurd (cc);
    reads = port.instance_reads.1;
    follows = inr (port.table_reads.0, record { what = Ok h; told = λ none. absurd (cc); reads = port.table_reads.1; says = says });
  },
)

of_bad_table : {instance table : List ℕ} (Last : Parts → TideParts → List Report → Type 0) (fault : TideFault) → IsBadTable (Some instance) (Some table) fault → OfFiles instance table Last (bad_tides fault ∷ [])
of_bad_table Last fault bad = inr (
  bad.instance_reads.0,
  record {
    what = Ok bad.port;
    told = λ none. absurd (cc);
    reads = bad.instance_reads.1;
    follows = inr (bad.table_reads.0, record { what = Err fault; told = λ none. bad.is_fault (cc); reads = bad.table_reads.1; says = refl });
  },
)

of_long_table : {instance table : List ℕ} (Last : Parts → TideParts → List Report → Type 0) → GivesPort (Some instance) → IsLong table → OfFiles instance table Last (too_long Tides ∷ [])
of_long_table Last gives long = inr (
  gives.reads.0,
  record { what = Ok gives.port; told = λ none. absurd (cc); reads = gives.reads.1; follows = inl (long, refl) },
)

-- files that give no port
no_port_files : (instance table : List ℕ) (Last : Parts → TideParts → List Report → Type 0) (r : Report) → NoPort (Some instance) (Some table) r → OfFiles instance table Last (r ∷ [])
no_port_files instance table Last bad_json says = inr (says.0, record { what = Err read.NotJson; told = λ none. absurd (cc); reads = says.1; follows = refl })
no_port_files instance table Last (bad_field fault) says = inr (says.0, record { what = Err (read.Field fault); told = λ none. absurd (cc); reads = says.1; follows = refl })
no_port_files instance table Last (bad_tides fault) says = of_bad_table Last fault says
no_port_files instance table Last (too_long Instance) says = inl (says, refl)
no_port_files instance table Last (too_long Tides) says = of_long_table Last says.0 says.1
no_port_files instance table Last r says = absurd says

-- a plan that is read as this
by_plan : (all : DayReports) (plan : List ℕ) (p : Parts) (h : TideParts) (events : List ℕ) (what : Result (List ℕ) (MalformedLine AuditWord)) (rs : List Report) → length plan ≤ most_bytes → timetable_of_text (shape_of (flattened p h)) plan ≡ what → PlanSays all p h events what rs → LastSays all plan events p h rs
by_plan all plan p h events what rs short reads says = inr (short, subst (λ (read_as : Result (List ℕ) (MalformedLine AuditWord)). PlanSays all p h events read_as rs) (sym reads) says)

-- a timetable, and events that are read as this
by_events : (all : DayReports) (plan events : List ℕ) (p : Parts) (h : TideParts) (table : List ℕ) (what : Result (List PortEvent) (MalformedLine AuditWord)) (rs : List Report) → IsPlannedTimetable (Some plan) p h table → length events ≤ most_bytes → events_text events ≡ what → rs ≡ of_events all (flattened p h) (whole p.fleet) (watched table) what → LastSays all plan events p h rs
by_events all plan events p h table what rs planned short reads says =
    by_plan all plan p h events (Ok table) rs planned.reads.0 planned.reads.1 (inr (short, subst (λ (read_as : Result (List PortEvent) (MalformedLine AuditWord)). rs ≡ of_events all (flattened p h) (whole p.fleet) (watched table) read_as) (sym reads) says))

by_failure : (all : DayReports) (plan events : List ℕ) (p : Parts) (h : TideParts) (table : List ℕ) (number : ℕ) (cause : AuditWord) → IsPlannedTimetable (Some plan) p h table → EventsFail (flattened p h) (whole p.fleet) (watched table) (Some events) number cause → LastSays all plan events p h (bad_text Events number (audit_word_text cause) ∷ [])
by_failure all plan events p h table number cause planned (by_form form) = by_events all plan events p h table (Err (record { number = number; word = cause })) (bad_text Events number (audit_word_text cause) ∷ []) planned form.0 form.1 refl
by_failure all plan events p h table number cause planned (by_event happened told refusal) =
    by_events all plan events p h table (Ok happened) (bad_text Events number (audit_word_text cause) ∷ []) planned told.0 told.1 (sym (ap (of_trial all (flattened p h) (watched table) happened) refusal))

lone_files : (all : DayReports) (instance tides plan events : List ℕ) (r : Report) → NoDay (Some instance) (Some tides) (Some plan) (Some events) r → OfFiles instance tides (LastSays all plan events) (r ∷ [])
lone_files all instance tides plan events (bad_text Plan number word) says =
    of_port (LastSays all plan events) (bad_text Plan number word ∷ []) says.gives (by_plan all plan says.port says.tide events (Err (record { number = number; word = says.cause })) (bad_text Plan number word ∷ []) says.reads.0 says.reads.1 (ap (λ (w : List ℕ). bad_text Plan number w ∷ []) says.named))
lone_files all instance tides plan events (bad_text Events number word) says =
    of_port (LastSays all plan events) (bad_text Events number word ∷ []) says.gives (subst (λ (w : List ℕ). LastSays all plan events says.port says.tide (bad_text Events number w ∷ [])) (sym says.named) (by_failure all plan events says.port says.tide says.table number says.cause says.planned says.fail))
lone_files all instance tides plan events (too_long Plan) says = of_port (LastSays all plan events) (too_long Plan ∷ []) says.0.reads (inl (says.1, refl))
lone_files all instance tides plan events (too_long Events) says =
    of_port (LastSays all plan events) (too_long Events ∷ []) says.0.reads (by_plan all plan says.0.port says.0.tide events (Ok says.0.table) (too_long Events ∷ []) says.0.planned.reads.0 says.0.planned.reads.1 (inl (says.1, refl)))
lone_files all instance tides plan events r says = no_port_files instance tides (LastSays all plan events) r says

untold_files : (all : DayReports) (instance tides plan events : List ℕ) (rs : List Report) → TellsNoDay (Some instance) (Some tides) (Some plan) (Some events) rs → OfFiles instance tides (LastSays all plan events) rs
untold_files all instance tides plan events [] says = absurd says
untold_files all instance tides plan events (r ∷ []) says = lone_files all instance tides plan events r says
untold_files all instance tides plan events (r ∷ next ∷ more) says = absurd says

day_files : (answer : DayAnswer) (instance tides plan events : List ℕ) (rs : List Report) → AnswersDay answer (Some instance) (Some tides) (Some plan) (Some events) rs → OfFiles instance tides (LastSays answer.reports plan events) rs
day_files answer instance tides plan events rs h =
    let all = answer.reports in
    let d = h.day in
    of_port (LastSays all plan events) rs d.reads (by_events all plan events d.port d.tide d.table (Ok d.happened) rs d.planned d.told.0 d.told.1 (h.printed ∙ sym (ap (of_trial all (flattened d.port d.tide) (watched d.table) d.happened) d.taken)))

files : (answer : DayAnswer) (instance tides plan events : List ℕ) (rs : List Report) → DaySays answer (Some instance) (Some tides) (Some plan) (Some events) rs → OfFiles instance tides (LastSays answer.reports plan events) rs
files answer instance tides plan events rs (inl none) = untold_files answer.reports instance tides plan events rs none
files answer instance tides plan events rs (inr day) = day_files answer instance tides plan events rs day

pub one_answer : (answer : DayAnswer) → OneAnswer answer
one_answer answer instance tides plan events reports others says says_too =
    one_of_files instance tides (LastSays answer.reports plan events) (one_last answer.reports plan events) reports others (files answer instance tides plan events reports says) (files answer instance tides plan events others says_too)
