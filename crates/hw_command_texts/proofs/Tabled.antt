-- The table of the plan that a certificate shows is the report.
use Rattle.std.proofs.Common.{◌≡◌, ◌∙◌, ℕ, List, [], ◌∷◌, Option, None, Result, Ok, refl, ap}
use Rattle.hw_model.specs.Problem.{Problem}
use Rattle.hw_desk.specs.State.{DeskState}
use Rattle.hw_desk.specs.declared.desk.Feed.TheVariants.{Certificate}
use Rattle.hw_cert_lines.specs.declared.check.Verdict.{Verdict}
use Rattle.hw_cert.specs.declared.version.Version.TheVariants.{Three}
use Rattle.hw_report.specs.Printing.{AreNamesOf}
use Rattle.hw_report.specs.Reports.{Report, Naming, by_number, checked, picture}
use Rattle.hw_command.specs.Carries.{Carries}
use Rattle.hw_command.specs.Certificates.{report_of_check}
use Rattle.hw_command.specs.Ends.{Ends}
use Rattle.hw_command.specs.Readings.{KeepsTable, ReadsCert, outcome_in}
use Rattle.hw_command.specs.Scope.{named_feed}
use Rattle.hw_command.specs.declared.cert.ReadCert.{ReadCert}
use Rattle.hw_command.specs.declared.outcome.CertOutcome.TheVariants.{Shows}
use Rattle.hw_command.specs.declared.outcome.CertStop.{CertStop}
use Rattle.hw_command.specs.declared.status.Status.{Status}
use Rattle.hw_command.specs.declared.taking.LastTable.{LastTable}
use Rattle.hw_command.proofs.Begun.{answers}
use Rattle.hw_command.proofs.Stops.{stops_carries}
use Rattle.hw_subject.specs.Reading.{ReadsSubject, StopsAtSubject, naming_of, searched_in}
use Rattle.hw_subject.specs.Subjects.{Topic, topic_subject}
use Rattle.hw_subject.specs.declared.source.Named.{Named}
use Rattle.hw_subject.specs.declared.source.Named.TheVariants.{ByNumber, ByName}
use Rattle.hw_subject.specs.declared.subject.Given.{Given}
use Rattle.hw_subject.proofs.Readings.{before_last}
use Rattle.hw_subject.proofs.Certless.{certless, refuses_on}
use Rattle.hw_subject.proofs.Certified.{ShowsNothing, all_entered, nothing_says, nothing_works, shown}
use Rattle.hw_command_texts.specs.Listed.{HasTable}
use Rattle.hw_command_texts.specs.Tables.{Tables, listing_table, table_task}

pub has_table : (f : Problem) (names : Named) → AreNamesOf f (naming_of names) → HasTable names
has_table f ByNumber are = tt
has_table f (ByName port tide) are = are.1

-- ---- why there is no subject

refused_says : (topic : Topic) (cert : List ℕ) (held : List ℕ → Option (List ℕ)) (r : Report) → (topic_subject topic).Refuses held r → Tables (topic_subject topic) cert held r
refused_says topic cert held (picture w text) h = absurd ((certless topic).silent held (picture w text) h refl)
refused_says topic cert held (checked w bound ships names) h = absurd ((certless topic).silent held (checked w bound ships names) h refl)
refused_says topic cert held r h = refuses_on (topic_subject topic) Three cert held r (certless topic) h

-- ---- the exits

-- the inputs give no value
pub table_stops : {x y z : DeskState} {r : Report} {e : Status} (topic : Topic) (cert : List ℕ) → StopsAtSubject (topic_subject topic) x y r → Ends (r ∷ []) y z e → Carries (table_task (topic_subject topic) cert) x z e
table_stops {x = x} {r = r} topic cert h ends = stops_carries (table_task (topic_subject topic) cert) (named_feed Certificate cert ∷ []) h refl (λ feed given. given) (refused_says topic cert x.held r) ends

-- the certificate shows nothing
pub table_refuses : {cert : List ℕ} {x y z end : DeskState} {given : Given} {e : Status} (topic : Topic) (result : Result (ReadCert LastTable) CertStop) → ShowsNothing result → ReadsSubject (topic_subject topic) x y given → ReadsCert Three KeepsTable (searched_in given.flat given.repair) cert y z result → Ends (report_of_check by_number None None (outcome_in result) ∷ []) z end e → Carries (table_task (topic_subject topic) cert) x end e
table_refuses {cert = cert} {x = x} {z = z} topic result nothing h k ends = record {
  mid = z;
  reports = report_of_check by_number None None (outcome_in result) ∷ [];
  works = nothing_works topic result h k;
  says = nothing_says topic (Tables (topic_subject topic) cert x.held) result nothing h k (λ number word hint refused. refused) (λ refused. refused);
  ends = ends;
}

-- the table is sent
pub table_sent : {cert : List ℕ} {x y z end : DeskState} {given : Given} {read : ReadCert LastTable} {e : Status} (topic : Topic) (v : Verdict) → read.outcome ≡ Shows v → ReadsSubject (topic_subject topic) x y given → ReadsCert Three KeepsTable (searched_in given.flat given.repair) cert y z (Ok read) → Ends (picture v (listing_table (naming_of given.named) read.kept.0) ∷ []) z end e → Carries (table_task (topic_subject topic) cert) x end e
table_sent {cert = cert} {x = x} {z = z} {given = given} {read = read} topic v e h k ends =
    let s = topic_subject topic in
    let table = read.kept.0 in
    record {
      mid = z;
      reports = picture v (listing_table (naming_of given.named) table) ∷ [];
      works = answers None _ refl (all_entered topic h k) (before_last (s.Gives x.held) s.inputs (named_feed Certificate cert) h.give) (k.reads.0 ∙ h.read_faults);
      says = λ own. record {
        value = h.value;
        reads = h.reads;
        bound = read.bound;
        table = table;
        shown = shown topic v e h k;
        is_table = ap (λ (names : Naming). listing_table names table) h.naming;
      };
      ends = ends;
    }
