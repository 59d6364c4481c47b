-- A certificate whose lines are taken one after another.
use Rattle.std.proofs.Common.{◌≡◌, ◌∙◌, ℕ, true, false, List, [], ◌∷◌, ◌++◌, Option, Result, Ok, Err, All, subst, sym}
use Rattle.std.proofs.lemmas.List.Elements.{All-push}
use Rattle.std.specs.Result.{is_err}
use Rattle.std.specs.Prelude.{IfSome, IsSomeAnd, OnOk}
use Rattle.hw_model.specs.Problem.{Problem, shape_of}
use Rattle.hw_desk.specs.State.{DeskState}
use Rattle.hw_desk.specs.Calls.{Moves}
use Rattle.hw_desk.specs.declared.desk.Feed.TheVariants.{Certificate}
use Rattle.hw_cert_lines.specs.declared.line.Line.{Line}
use Rattle.hw_cert_lines.specs.Tolled.{bound_of}
use Rattle.hw_cert.specs.declared.version.Version.{Version}
use Rattle.hw_cert.specs.Laws.{has_form}
use Rattle.hw_cert.specs.Nexts.{rest_of}
use Rattle.hw_cert.specs.Reader.{ReaderModel}
use Rattle.hw_cert.specs.Stream.{Position, CertLines, cert_stream_to}
use Rattle.hw_check.specs.Follows.{CheckerFollows}
use Rattle.hw_check.specs.States.{CheckState}
use Rattle.hw_command.specs.Certificates.{cert_outcome_to}
use Rattle.hw_command.specs.Checking.{Reached, rest_outcome, ComesOrStops, IsCheckingOpen, LeavesChecker, OpensCert}
use Rattle.hw_command.specs.Keeping.{rest_read, StepReads}
use Rattle.hw_command.specs.Readings.{HandsChecker, ReadsOrStops, ReadsRest, ReadsCert}
use Rattle.hw_command.specs.declared.cert.CertStep.TheVariants.{Further, Ended}
use Rattle.hw_command.specs.declared.cert.OpenCert.{OpenCert}
use Rattle.hw_command.specs.declared.cert.ReadCert.{ReadCert}
use Rattle.hw_command.specs.declared.outcome.CertOutcome.{CertOutcome}
use Rattle.hw_command.specs.declared.outcome.CertOutcome.TheVariants.{Shows, Wrong, TooLong}
use Rattle.hw_command.specs.declared.outcome.CertStop.{CertStop}
use Rattle.hw_command.specs.declared.outcome.CertStop.TheVariants.{Fault, NoMemory}
use Rattle.hw_command.proofs.Begun.{rose_on}
use Rattle.hw_command.proofs.Chained.{goes_on, reached_on}
use Rattle.hw_command.proofs.Kept.{kept_later, enters_on}

-- these lines were taken by now; they are the first that are read, and have forms of the versions up to this one
pub record Taken (f : Problem) (told : Option (List ℕ)) (outcome : List ℕ → CertOutcome) (read : List ℕ → CertLines) (most : Version) (all : List Line) (reader : ReaderModel) (checker : CheckState) (now : DeskState) : Type 0 where
  pub reached : Reached f told outcome all reader checker now
  pub reads : IfSome told (λ bytes. IsSomeAnd (rest_of reader now) (λ rest. read bytes ≡ rest_read f all reader.at rest))
  pub version : reader.at.most ≡ most
  pub formed : All (λ line. has_form most line ≡ true) all

-- what holds of an answer that is no error
pub unless_err : {E P : Type 0} (r : Result (Unit {0}) E) → is_err r ≡ false → OnOk r P → P
unless_err (Ok done) e h = h
unless_err (Err failed) e h = absurd (cc)

-- one line more
pub taken_on : {f : Problem} {told : Option (List ℕ)} {outcome : List ℕ → CertOutcome} {read : List ℕ → CertLines} {most : Version} {before : List Line} {r s : ReaderModel} {c d : CheckState} (line : Line) (x y : DeskState)
    → Taken f told outcome read most before r c x → Reached c.problem (rest_of r x) (rest_outcome c.problem before r.at) (before ++ line ∷ []) s d y → StepReads c.problem before r x y (Further s d line)
    → s.at.most ≡ r.at.most → has_form r.at.most line ≡ true → Taken f told outcome read most (before ++ line ∷ []) s d y
taken_on {f = f} {told = told} {read = is_read} {most = most} {before = before} {r = r} {s = s} {d = d} line x y h step reads same form =
    let all = before ++ line ∷ [] in
    let now = subst (λ (p : Problem). Reached p (rest_of r x) (rest_outcome p before r.at) all s d y) h.reached.problem step in
    let one = subst (λ (p : Problem). StepReads p before r x y (Further s d line)) h.reached.problem reads in
    record {
      reached = reached_on h.reached now;
      reads = goes_on is_read (rest_read f before r.at) (rest_read f all s.at) told (rest_of r x) (rest_of s y) h.reads one;
      version = same ∙ h.version;
      formed = All-push (λ line. has_form most line ≡ true) before line h.formed (subst (λ (v : Version). has_form v line ≡ true) h.version form);
    }

-- the checker that is handed on has taken all the lines
hands_on : (f : Problem) (all : List Line) (c : CheckState) (o : CertOutcome) (left : Option CheckState) → CheckerFollows c all → c.problem ≡ f → LeavesChecker c (Ended (Ok o) left) → HandsChecker f all o left
hands_on f all c (Shows v) left follows same e = subst (λ (it : Option CheckState). HandsChecker f all (Shows v) it) (sym e) (follows, same)
hands_on f all c (Wrong number word hint) left follows same e = e
hands_on f all c TooLong left follows same e = e

-- what was read after lines that were taken
pub read_onward : {K : Type 0} {Kept : K → List Line → Type 0} {f : Problem} {told : Option (List ℕ)} {outcome : List ℕ → CertOutcome} {read : List ℕ → CertLines} {most : Version} {all : List Line} {r : ReaderModel} {c : CheckState} (x y z : DeskState) (cert : ReadCert K)
    → Taken f told outcome read most all r c y → Kept cert.kept all → cert.bound ≡ bound_of all → y.read_faults ≡ x.read_faults
    → ComesOrStops c.problem all (rest_of r y) (rest_outcome c.problem all r.at) y z (Ok cert.outcome) → StepReads c.problem all r y z (Ended (Ok cert.outcome) cert.checker) → LeavesChecker c (Ended (Ok cert.outcome) cert.checker) → ReadsOrStops most Kept f told outcome read x z (Ok cert)
read_onward {f = f} {all = all} {r = r} {c = c} x y z cert h kept bound same k reads left =
    let step = subst (λ (p : Problem). ComesOrStops p all (rest_of r y) (rest_outcome p all r.at) y z (Ok cert.outcome)) h.reached.problem k in
    let one = subst (λ (p : Problem). StepReads p all r y z (Ended (Ok cert.outcome) cert.checker)) h.reached.problem reads in
    let both = kept_later x z cert.outcome cert.checker h.reached h.reads same step one in
    (both.0, record { lines = all; formed = h.formed; keeps = both.1; last = bound; kept = kept; hands = hands_on f all c cert.outcome cert.checker h.reached.follows h.reached.problem left })

-- the same after a step without a fault
reads_from : {K : Type 0} (most : Version) (Kept : K → List Line → Type 0) (f : Problem) (told : Option (List ℕ)) (outcome : List ℕ → CertOutcome) (read : List ℕ → CertLines) (x y z : DeskState) (found : Result (ReadCert K) CertStop) → y.read_faults ≡ x.read_faults → ReadsOrStops most Kept f told outcome read y z found → ReadsOrStops most Kept f told outcome read x z found
reads_from most Kept f told outcome read x y z (Ok cert) before h = (h.0 ∙ before, h.1)
reads_from most Kept f told outcome read x y z (Err Fault) before h = rose_on before h
reads_from most Kept f told outcome read x y z (Err NoMemory) before h = h ∙ before

-- what was read of a certificate that was opened
read_of : {K : Type 0} (Kept : K → List Line → Type 0) {most : Version} {f : Problem} {told : Option (List ℕ)} {r : ReaderModel} {c : CheckState} (x y z : DeskState) (found : Result (ReadCert K) CertStop) → IsCheckingOpen most f told r c y → y.read_faults ≡ x.read_faults → ReadsRest Kept r c y z found → ReadsOrStops most Kept f told (cert_outcome_to most f) (cert_stream_to most (shape_of f)) x z found
read_of Kept {most = most} {f = f} {told = told} {r = r} x y z found h before k =
    let of_problem = subst (λ (p : Problem). ReadsOrStops r.at.most Kept p (rest_of r y) (rest_outcome p [] r.at) (rest_read p [] r.at) y z found) h.problem k in
    let at_start = subst (λ (p : Position). ReadsOrStops p.most Kept f (rest_of r y) (rest_outcome f [] p) (rest_read f [] p) y z found) h.first of_problem in
    reads_from most Kept f told (cert_outcome_to most f) (cert_stream_to most (shape_of f)) x y z found before (subst (λ (t : Option (List ℕ)). ReadsOrStops most Kept f t (cert_outcome_to most f) (cert_stream_to most (shape_of f)) y z found) h.left at_start)

-- a certificate that was opened and read on
pub reads_of : {K : Type 0} (Kept : K → List Line → Type 0) {most : Version} {f : Problem} {cert bytes : List ℕ} {open_cert : OpenCert} (x y z : DeskState) (found : Result (ReadCert K) CertStop) → OpensCert most f cert x y (Ok open_cert) → Moves Certificate bytes y z → ReadsRest Kept open_cert.reader open_cert.checker y z found → ReadsCert most Kept f cert x z found
reads_of Kept x y z found h m k = record { enters = enters_on h.enters m; reads = read_of Kept x y z found h.answer.0 h.answer.1 k }
