-- The lines of a certificate that were taken so far.
use Rattle.std.specs.Prelude.{◌≡◌, ◌≤◌, ◌<◌, ◌+◌, ◌^◌, ℕ, List, [], true, ◌∷◌, ◌++◌, Option, Some, None, Result, Ok, Err, IfSome, IsSomeAnd, ⊤, is_none, if◌then◌else◌}
use Rattle.hw_model.specs.Problem.{Problem, shape_of}
use Rattle.hw_text.specs.Parts.{parts_of}
use Rattle.hw_desk.specs.State.{DeskState, Rose}
use Rattle.hw_desk.specs.declared.desk.Feed.TheVariants as feeds
use Rattle.hw_cert.specs.Laws.{has_form}
use Rattle.hw_cert.specs.Nexts.{rest_of}
use Rattle.hw_cert.specs.Reader.{ReaderModel}
use Rattle.hw_cert.specs.Stream.{Position, start_to, CertLines, stream_of}
use Rattle.hw_cert.specs.declared.version.Version.{Version}
use Rattle.hw_cert.specs.declared.stop.LineStop.{LineStop}
use Rattle.hw_cert.specs.declared.stop.LineStop.TheVariants as lines
use Rattle.hw_cert_lines.specs.declared.line.Line.{Line}
use Rattle.hw_cert_lines.specs.Valid.{verdict}
use Rattle.hw_check.specs.Follows.{CheckerFollows}
use Rattle.hw_check.specs.States.{CheckState}
use Rattle.hw_check.specs.declared.stop.CheckStop.{CheckStop}
use Rattle.hw_check.specs.declared.stop.CheckStop.TheVariants as checks
use Rattle.hw_report.specs.declared.report.RefusedWord.TheVariants.{Form, Check}
use Rattle.hw_command.specs.Certificates.{lines_outcome}
use Rattle.hw_command.specs.Inputs.{Enters}
use Rattle.hw_command.specs.declared.cert.OpenCert.{OpenCert}
use Rattle.hw_command.specs.declared.cert.CertStep.{CertStep}
use Rattle.hw_command.specs.declared.cert.CertStep.TheVariants.{Further, Ended}
use Rattle.hw_command.specs.declared.outcome.CertOutcome.{CertOutcome}
use Rattle.hw_command.specs.declared.outcome.CertOutcome.TheVariants.{Shows, Wrong, TooLong}
use Rattle.hw_command.specs.declared.outcome.CertStop.{CertStop}
use Rattle.hw_command.specs.declared.outcome.CertStop.TheVariants.{Fault, NoMemory}

-- the number of the line that comes next after the header
abbrev pub line_number : Position → ℕ
line_number at = at.number + (if is_none at.version then 1 else 0)

-- what is left of a certificate, after the lines before
abbrev pub left_outcome : Problem → List Line → ℕ → CertLines → CertOutcome
left_outcome f before number left = lines_outcome f before number left.lines left.stop

-- the same, where the reading stands there and these are the bytes left
abbrev pub rest_outcome : Problem → List Line → Position → List ℕ → CertOutcome
rest_outcome f before at rest = left_outcome f before (line_number at) (stream_of (shape_of f) at (parts_of 10 rest))

-- a reader and a checker of one problem, of which lines may be taken
pub record IsReady (reader : ReaderModel) (checker : CheckState) (now : DeskState) : Type 0 where
  pub shape : reader.shape ≡ shape_of checker.problem
  pub feed : reader.feed ≡ feeds.Certificate
  pub limit : reader.at.taken ≤ 2 ^ 40
  pub begun : (now.feeds feeds.Certificate).begun ≡ true

-- these lines of the problem were taken by now, and what is left decides the outcome that was to come, where the bytes are told
pub record Reached (f : Problem) (told : Option (List ℕ)) (outcome : List ℕ → CertOutcome) (all : List Line) (reader : ReaderModel) (checker : CheckState) (now : DeskState) : Type 0 where
  pub follows : CheckerFollows checker all
  pub problem : checker.problem ≡ f
  pub rest : IfSome told (λ bytes. IsSomeAnd (rest_of reader now) (λ rest. outcome bytes ≡ rest_outcome f all reader.at rest))

-- an outcome after these lines: the one that was to come, where the bytes are told
abbrev pub Comes : Problem → List Line → Option (List ℕ) → (List ℕ → CertOutcome) → CertOutcome → Type 0
Comes f all told outcome (Shows v) = (v ≡ verdict f all) × IfSome told (λ bytes. Shows v ≡ outcome bytes)
Comes f all told outcome (Wrong number word hint) = IfSome told (λ bytes. Wrong number word hint ≡ outcome bytes)
Comes f all told outcome TooLong = IfSome told (λ bytes. TooLong ≡ outcome bytes)

-- why there is no outcome: a fault has its cause, and otherwise no read failed
abbrev pub NoOutcome : DeskState → DeskState → CertStop → Type 0
NoOutcome old new Fault = Rose old.read_faults new.read_faults
NoOutcome old new NoMemory = new.read_faults ≡ old.read_faults

-- a reader before a certificate's header, of a version up to this one, whose bytes left are those told, and a checker of the problem without lines
pub record IsCheckingOpen (most : Version) (f : Problem) (told : Option (List ℕ)) (reader : ReaderModel) (checker : CheckState) (now : DeskState) : Type 0 where
  pub ready : IsReady reader checker now
  pub follows : CheckerFollows checker []
  pub problem : checker.problem ≡ f
  pub first : reader.at ≡ start_to most
  pub left : rest_of reader now ≡ told

abbrev pub OpenAnswer : Version → Problem → Option (List ℕ) → DeskState → DeskState → Result OpenCert CertStop → Type 0
OpenAnswer most f told old new (Ok open_cert) = IsCheckingOpen most f told open_cert.reader open_cert.checker new × (new.read_faults ≡ old.read_faults)
OpenAnswer most f told old new (Err stop) = NoOutcome old new stop

-- a certificate of a version up to this one is begun under its name, and none of its lines was taken
pub record OpensCert (most : Version) (f : Problem) (cert : List ℕ) (old new : DeskState) (result : Result OpenCert CertStop) : Type 0 where
  pub enters : Enters feeds.Certificate cert old new
  pub answer : OpenAnswer most f (old.held cert) old new result

-- the outcome of a certificate after these lines, and no read failed; or why it isn't known
abbrev pub ComesOrStops : Problem → List Line → Option (List ℕ) → (List ℕ → CertOutcome) → DeskState → DeskState → Result CertOutcome CertStop → Type 0
ComesOrStops f all told outcome old new (Ok o) = (new.read_faults ≡ old.read_faults) × Comes f all told outcome o
ComesOrStops f all told outcome old new (Err stop) = NoOutcome old new stop

-- one more line was taken and no read failed, or the check has ended
abbrev pub Steps : Problem → List Line → ReaderModel → DeskState → DeskState → CertStep → Type 0
Steps f before r old new (Further reader checker line) = (new.read_faults ≡ old.read_faults) × Reached f (rest_of r old) (rest_outcome f before r.at) (before ++ line ∷ []) reader checker new
Steps f before r old new (Ended found left) = ComesOrStops f before (rest_of r old) (rest_outcome f before r.at) old new found

-- the same of a checker, whatever the lines before
abbrev pub CheckerSteps : ReaderModel → CheckState → DeskState → DeskState → CertStep → Type 0
CheckerSteps r c old new step = (before : List Line) → CheckerFollows c before → Steps c.problem before r old new step

-- after a line one more can be taken
abbrev pub GoesFurther : ReaderModel → DeskState → CertStep → Type 0
GoesFurther r now (Further reader checker line) = IsReady reader checker now × (r.at.taken < reader.at.taken)
GoesFurther r now (Ended found left) = ⊤

-- a line that was taken has a form of the versions that may be read, and these stay the same
abbrev pub StaysWithin : ReaderModel → CertStep → Type 0
StaysWithin r (Further reader checker line) = (reader.at.most ≡ r.at.most) × (has_form r.at.most line ≡ true)
StaysWithin r (Ended found left) = ⊤

-- the checker is handed on where something is shown, and not otherwise
abbrev pub LeavesChecker : CheckState → CertStep → Type 0
LeavesChecker c (Further reader checker line) = ⊤
LeavesChecker c (Ended (Ok (Shows v)) left) = left ≡ Some c
LeavesChecker c (Ended (Ok (Wrong number word hint)) left) = left ≡ None
LeavesChecker c (Ended (Ok TooLong) left) = left ≡ None
LeavesChecker c (Ended (Err stop) left) = ⊤

-- the outcome of a certificate whose line of this number isn't taken
abbrev pub of_check_stop : ℕ → CheckStop → Result CertOutcome CertStop
of_check_stop number (checks.Refused r) = Ok (Wrong number (Check r.word) r.hint)
of_check_stop number checks.NoMemory = Err NoMemory

-- the outcome of a certificate of which no further line is read
abbrev pub of_line_stop : LineStop → Result CertOutcome CertStop
of_line_stop (lines.Form number word) = Ok (Wrong number (Form word) None)
of_line_stop lines.Fault = Err Fault
of_line_stop lines.TooLong = Ok TooLong
of_line_stop lines.NoMemory = Err NoMemory
