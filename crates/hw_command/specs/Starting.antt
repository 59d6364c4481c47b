-- A certificate of any version that is read before a command goes on from it, and why it can't.
use Rattle.std.specs.Prelude.{◌≡◌, ◌⊎◌, ℕ, Bool, true, false, List, Result, Ok, Err, ⊤}
use Rattle.hw_model.specs.Problem.{Problem}
use Rattle.hw_desk.specs.State.{DeskState}
use Rattle.hw_cert_lines.specs.declared.check.Verdict.{Verdict}
use Rattle.hw_cert_lines.specs.declared.line.Line.{Line}
use Rattle.hw_cert.specs.declared.version.Version.TheVariants.{Three}
use Rattle.hw_cert_course.specs.Courses.{CourseStands}
use Rattle.hw_cert_course.specs.declared.going_on.Course.{Course}
use Rattle.hw_cert_course.specs.declared.stop.CourseStop.{CourseStop}
use Rattle.hw_cert_course.specs.declared.stop.CourseStop.TheVariants as courses
use Rattle.hw_report.specs.declared.report.RefusedWord.TheVariants.{Check}
use Rattle.hw_command.specs.Readings.{KeepsLines, ReadsCert, outcome_in}
use Rattle.hw_command.specs.declared.cert.ReadCert.{ReadCert}
use Rattle.hw_command.specs.declared.outcome.CertOutcome.{CertOutcome}
use Rattle.hw_command.specs.declared.outcome.CertOutcome.TheVariants.{Shows, Wrong, TooLong}
use Rattle.hw_command.specs.declared.outcome.CertStop.{CertStop}
use Rattle.hw_command.specs.declared.outcome.CertStop.TheVariants as stops

-- why there is no answer, told as of a certificate
abbrev pub stop_outcome : CourseStop → Result CertOutcome CertStop
stop_outcome (courses.Refused number cause) = Ok (Wrong number (Check cause.word) cause.hint)
stop_outcome courses.NoMemory = Err stops.NoMemory

-- the certificate was read to its end, and shows something
pub record StartsOn {K : Type 0} (Kept : K → List Line → Type 0) (f : Problem) (cert : List ℕ) (old mid : DeskState) : Type 0 where
  pub read : ReadCert K
  pub shows : Verdict
  pub reads : ReadsCert Three Kept f cert old mid (Ok read)
  pub outcome : read.outcome ≡ Shows shows

-- whether an outcome is that of a certificate that is refused
abbrev pub shows_nothing : CertOutcome → Bool
shows_nothing (Shows v) = false
shows_nothing (Wrong number word hint) = true
shows_nothing TooLong = true

-- the certificate isn't read to its end, or is refused
abbrev pub ShowsNothing : Result CertOutcome CertStop → Type 0
ShowsNothing (Ok outcome) = shows_nothing outcome ≡ true
ShowsNothing (Err stop) = ⊤

-- why nothing is made of a certificate, told as of it: it isn't read to its end or shows nothing
pub record Unstarted {K : Type 0} (Kept : K → List Line → Type 0) (f : Problem) (cert : List ℕ) (old new : DeskState) (stopped : Result CertOutcome CertStop) : Type 0 where
  pub result : Result (ReadCert K) CertStop
  pub reads : ReadsCert Three Kept f cert old new result
  pub told : stopped ≡ outcome_in result
  pub nothing : ShowsNothing stopped

-- it shows something, and then memory ran out
pub record RunsOut {K : Type 0} (Kept : K → List Line → Type 0) (f : Problem) (cert : List ℕ) (old new : DeskState) (stopped : Result CertOutcome CertStop) : Type 0 where
  pub starts : StartsOn Kept f cert old new
  pub told : stopped ≡ Err stops.NoMemory

abbrev pub StopsOnStart : {K : Type 0} → (K → List Line → Type 0) → Problem → List ℕ → DeskState → DeskState → Result CertOutcome CertStop → Type 0
StopsOnStart Kept f cert old new stopped = Unstarted Kept f cert old new stopped ⊎ RunsOut Kept f cert old new stopped

-- it shows something: its lines, with the checker that has taken them
pub record StartsCourse (f : Problem) (cert : List ℕ) (old new : DeskState) (course : Course) : Type 0 where
  pub starts : StartsOn KeepsLines f cert old new
  pub stands : CourseStands f course
  pub lines : course.lines.items ≡ starts.reads.reads.1.lines

abbrev pub ReadsStart : Problem → List ℕ → DeskState → DeskState → Result Course (Result CertOutcome CertStop) → Type 0
ReadsStart f cert old new (Ok course) = StartsCourse f cert old new course
ReadsStart f cert old new (Err stopped) = Unstarted KeepsLines f cert old new stopped
