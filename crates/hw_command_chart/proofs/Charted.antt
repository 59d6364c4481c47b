-- The plan that a certificate shows is drawn.
use Rattle.std.proofs.Common.{◌≡◌, ◌∙◌, ◌++◌, ℕ, List, [], ◌∷◌, Option, Some, None, Result, Ok, append-nil, inl, inr, refl, sym, ap, subst}
use Rattle.std.specs.Prelude.{IfSome}
use Rattle.hw_model.specs.Problem.{Problem, IsTimetable}
use Rattle.hw_desk.specs.State.{DeskState}
use Rattle.hw_desk.specs.declared.desk.Feed.TheVariants.{Certificate}
use Rattle.hw_cert_lines.specs.declared.check.Verdict.{Verdict}
use Rattle.hw_cert.specs.declared.version.Version.TheVariants.{Three}
use Rattle.hw_cert.proofs.Answered.{told_map}
use Rattle.hw_chart.specs.declared.outcome.Outcome.{Outcome}
use Rattle.hw_repair.specs.Wishes.{PlanFits, PlanParts}
use Rattle.hw_report.specs.Reports.{Report, Naming, by_number, checked, no_memory, picture}
use Rattle.hw_command.specs.Carries.{Carries}
use Rattle.hw_command.specs.Certificates.{report_of_check}
use Rattle.hw_command.specs.Ends.{Ends}
use Rattle.hw_command.specs.Readings.{KeepsTable, ReadsCert, outcome_in}
use Rattle.hw_command.specs.Scope.{named_feed}
use Rattle.hw_command.specs.declared.cert.ReadCert.{ReadCert}
use Rattle.hw_command.specs.declared.outcome.CertOutcome.TheVariants.{Shows}
use Rattle.hw_command.specs.declared.outcome.CertStop.{CertStop}
use Rattle.hw_command.specs.declared.status.Status.{Status}
use Rattle.hw_command.specs.declared.taking.LastTable.{LastTable}
use Rattle.hw_command.proofs.Begun.{answers, wants_memory}
use Rattle.hw_command.proofs.Stops.{stops_carries}
use Rattle.hw_subject.specs.Meanings.{repaired_problem}
use Rattle.hw_subject.specs.Reading.{ReadsSubject, StopsAtSubject, plan_in, searched_in}
use Rattle.hw_subject.specs.Subjects.{Topic, topic_subject}
use Rattle.hw_subject.specs.declared.subject.Given.{Given}
use Rattle.hw_subject.proofs.Readings.{before_last}
use Rattle.hw_subject.proofs.Shown.{last_permitted}
use Rattle.hw_subject.proofs.Certless.{certless, refuses_on}
use Rattle.hw_subject.proofs.Certified.{ShowsNothing, all_entered, modelled, nothing_says, nothing_works, shown}
use Rattle.hw_command_chart.specs.Charts.{Charts, chart_task, picture_of}
use Rattle.hw_command_chart.specs.Drawing.{EndsUnlessMemory, drawn_report}

-- ---- why there is no subject

refused_says : (topic : Topic) (cert : List ℕ) (held : List ℕ → Option (List ℕ)) (r : Report) → (topic_subject topic).Refuses held r → Charts (topic_subject topic) cert held r
refused_says topic cert held (picture w drawn) h = absurd ((certless topic).silent held (picture w drawn) h refl)
refused_says topic cert held (checked w bound ships names) h = absurd ((certless topic).silent held (checked w bound ships names) h refl)
refused_says topic cert held r h = refuses_on (topic_subject topic) Three cert held r (certless topic) h

-- ---- the exits

-- the inputs give no value
pub chart_stops : {x y z : DeskState} {r : Report} {s : Status} (topic : Topic) (cert : List ℕ) → StopsAtSubject (topic_subject topic) x y r → Ends (r ∷ []) y z s → Carries (chart_task (topic_subject topic) cert) x z s
chart_stops {x = x} {r = r} topic cert h ends = stops_carries (chart_task (topic_subject topic) cert) (named_feed Certificate cert ∷ []) h refl (λ feed given. given) (refused_says topic cert x.held r) ends

-- the certificate shows nothing
pub chart_refuses : {cert : List ℕ} {x y z end : DeskState} {given : Given} {s : Status} (topic : Topic) (result : Result (ReadCert LastTable) CertStop) → ShowsNothing result → ReadsSubject (topic_subject topic) x y given → ReadsCert Three KeepsTable (searched_in given.flat given.repair) cert y z result → Ends (report_of_check by_number None None (outcome_in result) ∷ []) z end s → Carries (chart_task (topic_subject topic) cert) x end s
chart_refuses {cert = cert} {x = x} {z = z} topic result nothing h k ends = record {
  mid = z;
  reports = report_of_check by_number None None (outcome_in result) ∷ [];
  works = nothing_works topic result h k;
  says = nothing_says topic (Charts (topic_subject topic) cert x.held) result nothing h k (λ number word hint refused. refused) (λ refused. refused);
  ends = ends;
}

-- the picture is sent, or memory ran out for the moves
pub chart_draws : {cert : List ℕ} {x y z end : DeskState} {given : Given} {read : ReadCert LastTable} {s : Status} (topic : Topic) (v : Verdict) → read.outcome ≡ Shows v → ReadsSubject (topic_subject topic) x y given → ReadsCert Three KeepsTable (searched_in given.flat given.repair) cert y z (Ok read) → EndsUnlessMemory (drawn_report given read.kept.0 (record { verdict = v; bound = read.bound })) z end s → Carries (chart_task (topic_subject topic) cert) x end s
chart_draws {cert = cert} {x = x} {z = z} {given = given} {read = read} topic v e h k (inl ends) =
    let s = topic_subject topic in
    let table = read.kept.0 in
    let o : Outcome = record { verdict = v; bound = read.bound } in
    record {
      mid = z;
      reports = drawn_report given table o ∷ [];
      works = answers None _ refl (all_entered topic h k) (before_last (s.Gives x.held) s.inputs (named_feed Certificate cert) h.give) (k.reads.0 ∙ h.read_faults);
      says = λ own. record {
        value = h.value;
        reads = h.reads;
        bound = read.bound;
        table = table;
        shown = shown topic v e h k;
        is_picture = ap (λ (names : Naming). picture_of names given.flat (plan_in given.repair) table o) h.naming ∙ ap (λ (f : Problem). picture_of (s.naming h.value) f (plan_in given.repair) table o) h.problem ∙ ap (λ (plan : Option PlanParts). picture_of (s.naming h.value) (s.problem h.value) plan table o) h.plan;
      };
      ends = ends;
    }
chart_draws {cert = cert} {x = x} {z = z} topic v e h k (inr ends) =
    let s = topic_subject topic in
    record {
      mid = z;
      reports = no_memory ∷ [];
      works = wants_memory None (s.inputs ++ named_feed Certificate cert ∷ []) [] (sym (append-nil _)) (all_entered topic h k) (before_last (s.Gives x.held) s.inputs (named_feed Certificate cert) h.give) (k.reads.0 ∙ h.read_faults);
      says = λ own. absurd (cc);
      ends = ends;
    }

-- ---- what is drawn

-- a timetable of the judged problem is one of the problem
of_judged : (f : Problem) (plan : Option PlanParts) (table : List ℕ) → IsTimetable (repaired_problem f plan) table → IsTimetable f table
of_judged f None table is = is
of_judged f (Some plan) table is = record { each_ship = is.each_ship; each_slot = is.each_slot }

-- it is a timetable of the problem
pub listed : {cert : List ℕ} {x y z : DeskState} {given : Given} {read : ReadCert LastTable} (topic : Topic) (v : Verdict) → read.outcome ≡ Shows v → ReadsSubject (topic_subject topic) x y given → ReadsCert Three KeepsTable (searched_in given.flat given.repair) cert y z (Ok read) → IfSome read.kept.0 (IsTimetable given.flat)
listed {read = read} topic v e h k =
    let s = topic_subject topic in
    let is = shown topic v e h k in
    subst (λ (f : Problem). IfSome read.kept.0 (IsTimetable f)) (sym h.problem) (told_map read.kept.0 (λ table permits. of_judged (s.problem h.value) (s.plan h.value) table permits.listed) (last_permitted s h.value is.lines read.kept.0 (modelled topic h) is.fit is.valid is.last_table))

-- and the plan is one of it
pub planned : {x y : DeskState} {given : Given} (topic : Topic) → ReadsSubject (topic_subject topic) x y given → IfSome (plan_in given.repair) (PlanFits given.flat)
planned {given = given} topic h =
    let s = topic_subject topic in
    subst (λ (o : Option PlanParts). IfSome o (PlanFits given.flat)) (sym h.plan) (subst (λ (f : Problem). IfSome (s.plan h.value) (PlanFits f)) (sym h.problem) (modelled topic h).fits)
