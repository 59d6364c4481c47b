-- What the timetable of a certificate makes of a plan is told.
use Rattle.std.proofs.Common.{◌≡◌, ◌∙◌, ℕ, List, [], ◌∷◌, Option, None, Some, Result, Ok, refl, sym, ap, subst}
use Rattle.std.specs.Prelude.{IfSome}
use Rattle.hw_model.specs.Problem.{Problem, IsTimetable}
use Rattle.hw_desk.specs.State.{DeskState}
use Rattle.hw_desk.specs.declared.desk.Feed.TheVariants.{Certificate}
use Rattle.hw_cert_lines.specs.declared.check.Verdict.{Verdict}
use Rattle.hw_cert.specs.declared.version.Version.TheVariants.{Three}
use Rattle.hw_cert.proofs.Answered.{told_map}
use Rattle.hw_repair.specs.Wishes.{PlanParts, PlanFits}
use Rattle.hw_report.specs.Reports.{Report, Naming, by_number, checked, whole_text}
use Rattle.hw_command.specs.Carries.{Carries}
use Rattle.hw_command.specs.Certificates.{report_of_check}
use Rattle.hw_command.specs.Ends.{Ends}
use Rattle.hw_command.specs.Readings.{KeepsTable, ReadsCert, outcome_in}
use Rattle.hw_command.specs.Scope.{named_feed}
use Rattle.hw_command.specs.Works.{ReadCauseOf, speaks, of_answer}
use Rattle.hw_command.specs.declared.cert.ReadCert.{ReadCert}
use Rattle.hw_command.specs.declared.outcome.CertOutcome.TheVariants.{Shows}
use Rattle.hw_command.specs.declared.outcome.CertStop.{CertStop}
use Rattle.hw_command.specs.declared.status.Status.{Status}
use Rattle.hw_command.specs.declared.taking.LastTable.{LastTable}
use Rattle.hw_command.proofs.Begun.{answers}
use Rattle.hw_command.proofs.Stops.{stops_carries}
use Rattle.hw_subject.specs.Reading.{ReadsSubject, StopsAtSubject, naming_of, plan_in, searched_in}
use Rattle.hw_subject.specs.Subjects.{Subject, Origin, origin_subject, repair_of, Topic}
use Rattle.hw_subject.specs.declared.subject.Given.{Given}
use Rattle.hw_subject.proofs.Readings.{before_last}
use Rattle.hw_subject.proofs.Shown.{last_permitted}
use Rattle.hw_subject.specs.Shown.{Shown}
use Rattle.hw_subject.proofs.Certless.{certless, refuses_on}
use Rattle.hw_subject.proofs.Certified.{ShowsNothing, all_entered, modelled, nothing_says, nothing_works, shown}
use Rattle.hw_command_texts.specs.Explains.{ExplainsRepair, explain_repair_task}
use Rattle.hw_command_texts.specs.Texts.{told_report}

-- ---- the repair of a flat text or a port

-- as a topic
abbrev pub topic_of : Origin → List ℕ → Topic
topic_of origin plan = record { origin = origin; plan = Some plan }

abbrev pub subject_by : Origin → List ℕ → Subject
subject_by origin plan = repair_of (origin_subject origin) plan

-- why it is refused is what is said
pub refused_says : (origin : Origin) (plan cert : List ℕ) (held : List ℕ → Option (List ℕ)) (r : Report) → (subject_by origin plan).Refuses held r → ExplainsRepair (subject_by origin plan) cert held r
refused_says origin plan cert held (whole_text told) h = absurd ((certless (topic_of origin plan)).silent held (whole_text told) h refl)
refused_says origin plan cert held (checked w bound ships names) h = absurd ((certless (topic_of origin plan)).silent held (checked w bound ships names) h refl)
refused_says origin plan cert held r h = refuses_on (subject_by origin plan) Three cert held r (certless (topic_of origin plan)) h

-- ---- the exits

-- the inputs give no value
pub explain_stops : {x y z : DeskState} {r : Report} {s : Status} (origin : Origin) (plan cert : List ℕ) → StopsAtSubject (subject_by origin plan) x y r → Ends (r ∷ []) y z s → Carries (explain_repair_task (subject_by origin plan) cert) x z s
explain_stops {x = x} {r = r} origin plan cert h ends = stops_carries (explain_repair_task (subject_by origin plan) cert) (named_feed Certificate cert ∷ []) h refl (λ feed given. given) (refused_says origin plan cert x.held r) ends

-- the certificate shows nothing
pub explain_refuses : {cert : List ℕ} {x y z end : DeskState} {given : Given} {s : Status} (origin : Origin) (plan : List ℕ) (result : Result (ReadCert LastTable) CertStop) → ShowsNothing result → ReadsSubject (subject_by origin plan) x y given → ReadsCert Three KeepsTable (searched_in given.flat given.repair) cert y z result → Ends (report_of_check by_number None None (outcome_in result) ∷ []) z end s → Carries (explain_repair_task (subject_by origin plan) cert) x end s
explain_refuses {cert = cert} {x = x} {z = z} origin plan result nothing h k ends = record {
  mid = z;
  reports = report_of_check by_number None None (outcome_in result) ∷ [];
  works = nothing_works (topic_of origin plan) result h k;
  says = nothing_says (topic_of origin plan) (ExplainsRepair (subject_by origin plan) cert x.held) result nothing h k (λ number word hint refused. refused) (λ refused. refused);
  ends = ends;
}

-- ---- what is told

-- of what was read, by its own parts
same_report : {s : Subject} {x y : DeskState} {given : Given} (w : Verdict) (bound : Option ℕ) (table : Option (List ℕ)) (h : ReadsSubject s x y given) → told_report (naming_of given.named) given.flat (plan_in given.repair) w bound table ≡ told_report (s.naming h.value) (s.problem h.value) (s.plan h.value) w bound table
same_report {s = s} {given = given} w bound table h =
    ap (λ (names : Naming). told_report names given.flat (plan_in given.repair) w bound table) h.naming
    ∙ ap (λ (f : Problem). told_report (s.naming h.value) f (plan_in given.repair) w bound table) h.problem
    ∙ ap (λ (plan : Option PlanParts). told_report (s.naming h.value) (s.problem h.value) plan w bound table) h.plan

answered : (names : Naming) (f : Problem) (plan : PlanParts) (w : Verdict) (bound : Option ℕ) (table : Option (List ℕ)) → speaks (told_report names f (Some plan) w bound table) ≡ of_answer
answered names f plan w bound None = refl
answered names f plan w bound (Some table) = refl

no_cause : (x z : DeskState) (names : Naming) (f : Problem) (plan : PlanParts) (w : Verdict) (bound : Option ℕ) (table : Option (List ℕ)) → z.read_faults ≡ x.read_faults → ReadCauseOf x z (told_report names f (Some plan) w bound table)
no_cause x z names f plan w bound None kept = kept
no_cause x z names f plan w bound (Some table) kept = kept

tells : (held : List ℕ → Option (List ℕ)) (cert : List ℕ) (origin : Origin) (plan : List ℕ) (v : (subject_by origin plan).Value) (w : Verdict) (bound : Option ℕ) (table : Option (List ℕ)) → let s = subject_by origin plan in s.Reads held v → Shown s v Three (held cert) w bound table → ExplainsRepair s cert held (told_report (s.naming v) (s.problem v) (s.plan v) w bound table)
tells held cert origin plan v w bound None reads is = record { value = v; reads = reads; naming = refl; counted = refl; shown = is }
tells held cert origin plan v w bound (Some table) reads is = record { value = v; reads = reads; plan = v.plan; planned = refl; shows = w; bound = bound; table = table; shown = is; is_text = refl }

pub explain_tells : {cert : List ℕ} {x y z end : DeskState} {given : Given} {read : ReadCert LastTable} {s : Status} (origin : Origin) (plan : List ℕ) (v : Verdict) → read.outcome ≡ Shows v → ReadsSubject (subject_by origin plan) x y given → ReadsCert Three KeepsTable (searched_in given.flat given.repair) cert y z (Ok read) → Ends (told_report (naming_of given.named) given.flat (plan_in given.repair) v read.bound read.kept.0 ∷ []) z end s → Carries (explain_repair_task (subject_by origin plan) cert) x end s
explain_tells {cert = cert} {x = x} {z = z} {end = end} {given = given} {read = read} {s = e} origin plan v is h k ends =
    let s = subject_by origin plan in
    let report = told_report (s.naming h.value) (s.problem h.value) (s.plan h.value) v read.bound read.kept.0 in
    record {
      mid = z;
      reports = report ∷ [];
      works = answers None report (answered (s.naming h.value) (s.problem h.value) h.value.plan v read.bound read.kept.0) (all_entered (topic_of origin plan) h k) (before_last (s.Gives x.held) s.inputs (named_feed Certificate cert) h.give) (no_cause x z (s.naming h.value) (s.problem h.value) h.value.plan v read.bound read.kept.0 (k.reads.0 ∙ h.read_faults));
      says = λ own. tells x.held cert origin plan h.value v read.bound read.kept.0 h.reads (shown (topic_of origin plan) v is h k);
      ends = subst (λ (r : Report). Ends (r ∷ []) z end e) (same_report v read.bound read.kept.0 h) ends;
    }

-- what is told is a timetable of the problem
pub listed : {cert : List ℕ} {x y z : DeskState} {given : Given} {read : ReadCert LastTable} (origin : Origin) (plan : List ℕ) (v : Verdict) → read.outcome ≡ Shows v → ReadsSubject (subject_by origin plan) x y given → ReadsCert Three KeepsTable (searched_in given.flat given.repair) cert y z (Ok read) → IfSome read.kept.0 (IsTimetable given.flat)
listed {read = read} origin plan v e h k =
    let s = subject_by origin plan in
    let is = shown (topic_of origin plan) v e h k in
    subst (λ (f : Problem). IfSome read.kept.0 (IsTimetable f)) (sym h.problem) (told_map read.kept.0 (λ table permits. record { each_ship = permits.listed.each_ship; each_slot = permits.listed.each_slot }) (last_permitted s h.value is.lines read.kept.0 (modelled (topic_of origin plan) h) is.fit is.valid is.last_table))

-- and the plan is one of it
pub planned : {x y : DeskState} {given : Given} (origin : Origin) (plan : List ℕ) → ReadsSubject (subject_by origin plan) x y given → IfSome (plan_in given.repair) (PlanFits given.flat)
planned {given = given} origin plan h =
    let s = subject_by origin plan in
    subst (λ (o : Option PlanParts). IfSome o (PlanFits given.flat)) (sym h.plan) (subst (λ (f : Problem). IfSome (s.plan h.value) (PlanFits f)) (sym h.problem) (modelled (topic_of origin plan) h).fits)
