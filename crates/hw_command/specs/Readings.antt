-- A certificate that is read to its end or up to the first wrong line, and what is kept of its lines.
use Rattle.std.specs.Prelude.{◌≡◌, ℕ, List, [], Option, Some, None, Result, Ok, Err, All, Vec, ⊤, true}
use Rattle.std.specs.declared.alloc.Global.{Global}
use Rattle.hw_model.specs.Problem.{Problem, shape_of}
use Rattle.hw_desk.specs.State.{DeskState}
use Rattle.hw_desk.specs.declared.desk.Feed.TheVariants.{Certificate}
use Rattle.hw_cert_lines.specs.declared.line.Line.{Line}
use Rattle.hw_cert_lines.specs.Lines.{last_table}
use Rattle.hw_cert_lines.specs.Tolled.{bound_of}
use Rattle.hw_cert.specs.declared.version.Version.{Version}
use Rattle.hw_cert.specs.Laws.{has_form}
use Rattle.hw_cert.specs.Nexts.{rest_of}
use Rattle.hw_cert.specs.Reader.{ReaderModel}
use Rattle.hw_cert.specs.Stream.{CertLines, cert_stream_to}
use Rattle.hw_check.specs.Follows.{CheckerFollows}
use Rattle.hw_check.specs.States.{CheckState}
use Rattle.hw_command.specs.Certificates.{cert_outcome_to}
use Rattle.hw_command.specs.Checking.{rest_outcome, NoOutcome}
use Rattle.hw_command.specs.Inputs.{Enters}
use Rattle.hw_command.specs.Keeping.{Keeps, rest_read}
use Rattle.hw_command.specs.declared.cert.ReadCert.{ReadCert}
use Rattle.hw_command.specs.declared.outcome.CertOutcome.{CertOutcome}
use Rattle.hw_command.specs.declared.outcome.CertOutcome.TheVariants.{Shows, Wrong, TooLong}
use Rattle.hw_command.specs.declared.outcome.CertStop.{CertStop}
use Rattle.hw_command.specs.declared.taking.LastTable.{LastTable}

-- ---- what is kept of some lines

-- nothing
abbrev pub KeepsNone : Unit {0} → List Line → Type 0
KeepsNone kept lines = ⊤

-- all of them
abbrev pub KeepsLines : Vec Line Global → List Line → Type 0
KeepsLines kept lines = kept.items ≡ lines

-- the timetable of the last table line, or none
abbrev pub KeepsTable : LastTable → List Line → Type 0
KeepsTable kept lines = kept.0 ≡ last_table lines

-- ---- a certificate

-- a checker of the problem that has taken these lines, where they show something, and none otherwise
abbrev pub HandsChecker : Problem → List Line → CertOutcome → Option CheckState → Type 0
HandsChecker f all (Shows v) None = ⊥
HandsChecker f all (Shows v) (Some checker) = CheckerFollows checker all × (checker.problem ≡ f)
HandsChecker f all (Wrong number word hint) left = left ≡ None
HandsChecker f all TooLong left = left ≡ None

-- the valid lines before an outcome, which have forms of the versions up to this one, and are all that the bytes read as if it shows something; the last bound among them; what was kept of them, and their checker
pub record ReadsLines {K : Type 0} (most : Version) (Kept : K → List Line → Type 0) (f : Problem) (told : Option (List ℕ)) (outcome : List ℕ → CertOutcome) (read : List ℕ → CertLines) (cert : ReadCert K) : Type 0 where
  pub lines : List Line
  pub formed : All (λ line. has_form most line ≡ true) lines
  pub keeps : Keeps f told outcome read lines cert.outcome
  pub last : cert.bound ≡ bound_of lines
  pub kept : Kept cert.kept lines
  pub hands : HandsChecker f lines cert.outcome cert.checker

-- the outcome alone
abbrev pub outcome_in : {K : Type 0} → Result (ReadCert K) CertStop → Result CertOutcome CertStop
outcome_in (Ok cert) = Ok cert.outcome
outcome_in (Err stop) = Err stop

-- the same without a failed read, or why there is no outcome
abbrev pub ReadsOrStops : {K : Type 0} → Version → (K → List Line → Type 0) → Problem → Option (List ℕ) → (List ℕ → CertOutcome) → (List ℕ → CertLines) → DeskState → DeskState → Result (ReadCert K) CertStop → Type 0
ReadsOrStops most Kept f told outcome read old new (Ok cert) = (new.read_faults ≡ old.read_faults) × ReadsLines most Kept f told outcome read cert
ReadsOrStops most Kept f told outcome read old new (Err stop) = NoOutcome old new stop

-- the same of what is left to read from the reader's place on, before any line was taken
abbrev pub ReadsRest : {K : Type 0} → (K → List Line → Type 0) → ReaderModel → CheckState → DeskState → DeskState → Result (ReadCert K) CertStop → Type 0
ReadsRest Kept r c old new result = ReadsOrStops r.at.most Kept c.problem (rest_of r old) (rest_outcome c.problem [] r.at) (rest_read c.problem [] r.at) old new result

-- the certificate is begun under its name, and this is its outcome, with its last bound and what was kept of its lines
pub record ReadsCert {K : Type 0} (most : Version) (Kept : K → List Line → Type 0) (f : Problem) (cert : List ℕ) (old new : DeskState) (result : Result (ReadCert K) CertStop) : Type 0 where
  pub enters : Enters Certificate cert old new
  pub reads : ReadsOrStops most Kept f (old.held cert) (cert_outcome_to most f) (cert_stream_to most (shape_of f)) old new result
