-- A certificate of a subject from which a command goes on.
use Rattle.std.proofs.Common.{◌≡◌, ◌++◌, ℕ, List, [], ◌∷◌, Option, Some, None, Result, Ok, Err, false, ap, subst, sym}
use Rattle.hw_model.specs.Problem.{Problem}
use Rattle.hw_desk.specs.State.{DeskState}
use Rattle.hw_desk.specs.declared.desk.Feed.TheVariants.{Certificate}
use Rattle.hw_cert_lines.specs.declared.line.Line.{Line}
use Rattle.hw_cert_lines.specs.Lines.{last_table}
use Rattle.hw_cert.specs.declared.version.Version.TheVariants.{Three}
use Rattle.hw_report.specs.Reports.{Report, Naming, refused, too_long}
use Rattle.hw_report.specs.declared.report.RefusedWord.{RefusedWord}
use Rattle.hw_command.specs.Certificates.{report_of_check}
use Rattle.hw_command.specs.Readings.{ReadsCert, outcome_in}
use Rattle.hw_command.specs.Scope.{named_feed}
use Rattle.hw_command.specs.Starting.{ShowsNothing, StartsOn}
use Rattle.hw_command.specs.Works.{Works, is_common}
use Rattle.hw_command.specs.declared.cert.ReadCert.{ReadCert}
use Rattle.hw_command.specs.declared.outcome.CertOutcome.{CertOutcome}
use Rattle.hw_command.specs.declared.outcome.CertOutcome.TheVariants.{Shows, Wrong, TooLong}
use Rattle.hw_command.specs.declared.outcome.CertStop.{CertStop}
use Rattle.hw_command.specs.declared.outcome.CertStop.TheVariants.{Fault, NoMemory}
use Rattle.hw_command.proofs.CertWorks.{cert_works}
use Rattle.hw_command.proofs.Started.{ok_same}
use Rattle.hw_subject.specs.Meanings.{judged}
use Rattle.hw_subject.specs.Reading.{ReadsSubject, searched_in}
use Rattle.hw_subject.specs.Shown.{Refused, Starts}
use Rattle.hw_subject.specs.Subjects.{Topic, topic_subject}
use Rattle.hw_subject.specs.declared.subject.Given.{Given}
use Rattle.hw_subject.proofs.Certified.{judged_lines, modelled}
use Rattle.hw_subject.proofs.Certless.{certless}
use Rattle.hw_subject.proofs.Readings.{before_last}
use Rattle.hw_subject.proofs.Shows.{ReadsOf, shown_of}

-- what it shows
abbrev pub starts : (topic : Topic) {K : Type 0} {Kept : K → List Line → Type 0} {cert : List ℕ} {x y z : DeskState} {given : Given} → (h : ReadsSubject (topic_subject topic) x y given) → StartsOn Kept (judged (topic_subject topic) h.value) cert y z → Starts (topic_subject topic) cert x.held
starts topic {cert = cert} {x = x} {y = y} h k =
    let s = topic_subject topic in
    let lines = k.reads.reads.1 in
    let found = subst (λ (o : CertOutcome). ReadsOf s h.value Three (y.held cert) lines.lines o) k.outcome lines.keeps in
    let there = subst (λ (told : Option (List ℕ)). ReadsOf s h.value Three told lines.lines (Shows k.shows)) (ap (λ held. held cert) h.entered.begins.held) found in
    record {
      value = h.value;
      reads = h.reads;
      shows = k.shows;
      bound = k.read.bound;
      table = last_table lines.lines;
      shown = shown_of s h.value Three (x.held cert) lines.lines k.shows k.read.bound (modelled topic h) lines.formed lines.last there;
    }

-- it is refused: what its report says, where a refusal says it
pub unstarted_says : (topic : Topic) {K : Type 0} {Kept : K → List Line → Type 0} {cert : List ℕ} {x y z : DeskState} {given : Given} (names : Naming) (Says : Report → Type 0) (result : Result (ReadCert K) CertStop) (stopped : Result CertOutcome CertStop)
    → ((number : ℕ) (word : RefusedWord) (hint : Option ℕ) → Refused (topic_subject topic) Three cert x.held (Wrong number word hint) → Says (refused number word hint)) → (Refused (topic_subject topic) Three cert x.held TooLong → Says (too_long Certificate))
    → (h : ReadsSubject (topic_subject topic) x y given) → ReadsCert Three Kept (searched_in given.flat given.repair) cert y z result → stopped ≡ outcome_in result → ShowsNothing stopped → is_common (report_of_check names None None stopped) ≡ false → Says (report_of_check names None None stopped)
unstarted_says topic names Says (Ok read) (Ok (Shows v)) wrong long h m is nothing own = absurd (cc)
unstarted_says topic {cert = cert} {x = x} names Says (Ok read) (Ok (Wrong number word hint)) wrong long h m is nothing own =
    let s = topic_subject topic in
    let k = judged_lines s h m in
    wrong number word hint (record { value = h.value; reads = h.reads; outcome = (subst (ReadsOf s h.value Three (x.held cert) k.lines) (ok_same (Wrong number word hint) read.outcome is) k.keeps).comes })
unstarted_says topic {cert = cert} {x = x} names Says (Ok read) (Ok TooLong) wrong long h m is nothing own =
    let s = topic_subject topic in
    let k = judged_lines s h m in
    long (record { value = h.value; reads = h.reads; outcome = (subst (ReadsOf s h.value Three (x.held cert) k.lines) (ok_same TooLong read.outcome is) k.keeps).comes })
unstarted_says topic names Says (Err stop) (Ok o) wrong long h m is nothing own = absurd (cc)
unstarted_says topic names Says result (Err Fault) wrong long h m is nothing own = absurd (cc)
unstarted_says topic names Says result (Err NoMemory) wrong long h m is nothing own = absurd (cc)

-- the work up to it
pub unstarted_works : (topic : Topic) {K : Type 0} {Kept : K → List Line → Type 0} {cert proof : List ℕ} {x y z : DeskState} {given : Given} {f : Problem} (names : Naming) (result : Result (ReadCert K) CertStop) (stopped : Result CertOutcome CertStop) → ReadsSubject (topic_subject topic) x y given → ReadsCert Three Kept f cert y z result → stopped ≡ outcome_in result → Works ((topic_subject topic).inputs ++ named_feed Certificate cert ∷ []) ((topic_subject topic).Gives x.held) (Some proof) x z (report_of_check names None None stopped)
unstarted_works topic {cert = cert} {proof = proof} {x = x} {z = z} names result stopped h m is =
    let s = topic_subject topic in
    subst (λ (o : Result CertOutcome CertStop). Works (s.inputs ++ named_feed Certificate cert ∷ []) (s.Gives x.held) (Some proof) x z (report_of_check names None None o)) (sym is)
    (cert_works names None None (Some proof) result h.entered h.read_faults (certless topic).unread (before_last (s.Gives x.held) s.inputs (named_feed Certificate cert) h.give) m)
