-- How a command ends that reads a subject and then a certificate, and makes Proof.
use Rattle.std.proofs.Common.{◌≡◌, ◌++◌, ◌∙◌, ℕ, List, [], ◌∷◌, Option, Some, None, Result, Ok, Err, inl, inr, refl, subst}
use Rattle.hw_model.specs.Problem.{Problem}
use Rattle.hw_desk.specs.State.{DeskState}
use Rattle.hw_desk.specs.declared.desk.Feed.TheVariants.{Certificate}
use Rattle.hw_cert_lines.specs.declared.line.Line.{Line}
use Rattle.hw_cert.specs.declared.version.Version.TheVariants.{Three}
use Rattle.hw_report.specs.Reports.{Report, Naming, refused, too_long}
use Rattle.hw_report.specs.declared.report.RefusedWord.{RefusedWord}
use Rattle.hw_command.specs.Carries.{Carries}
use Rattle.hw_command.specs.Certificates.{report_of_check}
use Rattle.hw_command.specs.Ends.{Ends}
use Rattle.hw_command.specs.Readings.{ReadsCert}
use Rattle.hw_command.specs.Scope.{MakesProof, named_feed}
use Rattle.hw_command.specs.Sending.{SendsTo}
use Rattle.hw_command.specs.Starting.{StopsOnStart, Unstarted}
use Rattle.hw_command.specs.Works.{ReadCauseOf, of_answer, speaks}
use Rattle.hw_command.specs.declared.cert.ReadCert.{ReadCert}
use Rattle.hw_command.specs.declared.outcome.CertOutcome.{CertOutcome}
use Rattle.hw_command.specs.declared.outcome.CertOutcome.TheVariants.{Wrong, TooLong}
use Rattle.hw_command.specs.declared.outcome.CertStop.{CertStop}
use Rattle.hw_command.specs.declared.status.Status.{Status}
use Rattle.hw_command.specs.declared.status.Status.TheVariants.{WriteFault}
use Rattle.hw_command.proofs.Exits as exits
use Rattle.hw_command.proofs.Stops.{stops_carries}
use Rattle.hw_subject.specs.CertTasks.{cert_task}
use Rattle.hw_subject.specs.Reading.{ReadsSubject, StopsAtSubject, searched_in}
use Rattle.hw_subject.specs.Shown.{Refused}
use Rattle.hw_subject.specs.Subjects.{Topic, topic_subject}
use Rattle.hw_subject.specs.declared.subject.Given.{Given}
use Rattle.hw_subject.proofs.Certified.{all_entered}
use Rattle.hw_subject.proofs.Readings.{before_last}
use Rattle.hw_subject.proofs.Started.{unstarted_says, unstarted_works}

-- there is no subject
pub subject_stops : (topic : Topic) (cert : List ℕ) (proof : Option (List ℕ)) (Says : DeskState → DeskState → Option Report → Type 0) {x y z : DeskState} {r : Report} {e : Status} → ((topic_subject topic).Refuses x.held r → Says x y (Some r)) → StopsAtSubject (topic_subject topic) x y r → Ends (r ∷ []) y z e → Carries (cert_task (topic_subject topic) cert proof Says) x z e
subject_stops topic cert proof Says says h ends = stops_carries (cert_task (topic_subject topic) cert proof Says) (named_feed Certificate cert ∷ []) h refl (λ feed given. given) says ends

-- the certificate isn't read to its end, or shows nothing
pub unstarted_carries : (topic : Topic) {K : Type 0} {Kept : K → List Line → Type 0} {cert proof : List ℕ} {x y z end : DeskState} {given : Given} {e : Status} (Says : DeskState → DeskState → Option Report → Type 0) (names : Naming) (stopped : Result CertOutcome CertStop)
    → ((number : ℕ) (word : RefusedWord) (hint : Option ℕ) → Refused (topic_subject topic) Three cert x.held (Wrong number word hint) → Says x z (Some (refused number word hint))) → (Refused (topic_subject topic) Three cert x.held TooLong → Says x z (Some (too_long Certificate)))
    → ReadsSubject (topic_subject topic) x y given → Unstarted Kept (searched_in given.flat given.repair) cert y z stopped → Ends (report_of_check names None None stopped ∷ []) z end e → Carries (cert_task (topic_subject topic) cert (Some proof) Says) x end e
unstarted_carries topic {x = x} {z = z} Says names stopped wrong long h k ends = record {
  mid = z;
  reports = report_of_check names None None stopped ∷ [];
  works = unstarted_works topic names k.result stopped h k.reads k.told;
  says = λ own. unstarted_says topic names (λ r. Says x z (Some r)) k.result stopped wrong long h k.reads k.told k.nothing own;
  ends = ends;
}

-- the same, or memory ran out
pub stopped_carries : (topic : Topic) {K : Type 0} {Kept : K → List Line → Type 0} {cert proof : List ℕ} {x y z end : DeskState} {given : Given} {e : Status} (Says : DeskState → DeskState → Option Report → Type 0) (names : Naming) (stopped : Result CertOutcome CertStop)
    → ((number : ℕ) (word : RefusedWord) (hint : Option ℕ) → Refused (topic_subject topic) Three cert x.held (Wrong number word hint) → Says x z (Some (refused number word hint))) → (Refused (topic_subject topic) Three cert x.held TooLong → Says x z (Some (too_long Certificate)))
    → ReadsSubject (topic_subject topic) x y given → StopsOnStart Kept (searched_in given.flat given.repair) cert y z stopped → Ends (report_of_check names None None stopped ∷ []) z end e → Carries (cert_task (topic_subject topic) cert (Some proof) Says) x end e
stopped_carries topic Says names stopped wrong long h (inl k) ends = unstarted_carries topic Says names stopped wrong long h k ends
stopped_carries topic {cert = cert} {proof = proof} {x = x} {z = z} {end = end} {e = e} Says names stopped wrong long h (inr k) ends =
    let s = topic_subject topic in
    exits.memory_carries (s.inputs ++ named_feed Certificate cert ∷ []) s.Gives Says (Some proof) (all_entered topic h k.starts.reads) (before_last (s.Gives x.held) s.inputs (named_feed Certificate cert) h.give) (k.starts.reads.reads.0 ∙ h.read_faults)
    (subst (λ (o : Result CertOutcome CertStop). Ends (report_of_check names None None o ∷ []) z end e) k.told ends)

-- a text was sent to Proof, and then an answer
pub sent_carries : (topic : Topic) {K : Type 0} {Kept : K → List Line → Type 0} {cert proof text : List ℕ} {x y m z end : DeskState} {given : Given} {f : Problem} {read : ReadCert K} {E : Type 0} {u : Unit {0}} {e : Status} (Says : DeskState → DeskState → Option Report → Type 0) (r : Report)
    → speaks r ≡ of_answer → (z.read_faults ≡ x.read_faults → ReadCauseOf x z r) → ReadsSubject (topic_subject topic) x y given → ReadsCert Three Kept f cert y m (Ok read) → SendsTo {E = E} proof text m z (Ok u) → (MakesProof proof x z → Says x z (Some r)) → Ends (r ∷ []) z end e → Carries (cert_task (topic_subject topic) cert (Some proof) Says) x end e
sent_carries topic {cert = cert} {x = x} Says r answer cause h k sends says ends =
    let s = topic_subject topic in
    exits.sent_carries (s.inputs ++ named_feed Certificate cert ∷ []) s.Gives Says r answer cause (all_entered topic h k) (before_last (s.Gives x.held) s.inputs (named_feed Certificate cert) h.give) (k.reads.0 ∙ h.read_faults) sends says ends

-- a make or a write of Proof failed
pub broke_carries : (topic : Topic) {K : Type 0} {Kept : K → List Line → Type 0} {cert proof text : List ℕ} {x y m z : DeskState} {given : Given} {f : Problem} {read : ReadCert K} {E : Type 0} {fault : E} (Says : DeskState → DeskState → Option Report → Type 0)
    → ReadsSubject (topic_subject topic) x y given → ReadsCert Three Kept f cert y m (Ok read) → SendsTo {E = E} proof text m z (Err fault) → Says x z None → Carries (cert_task (topic_subject topic) cert (Some proof) Says) x z WriteFault
broke_carries topic {cert = cert} {x = x} Says h k sends says =
    let s = topic_subject topic in
    exits.broke_carries (s.inputs ++ named_feed Certificate cert ∷ []) s.Gives Says (all_entered topic h k) (before_last (s.Gives x.held) s.inputs (named_feed Certificate cert) h.give) (k.reads.0 ∙ h.read_faults) sends says (refl, refl)
