-- A search that goes on from the lines of a certificate, and a longer certificate that is sent to Proof.
use Rattle.std.specs.Prelude.{◌≡◌, ◌⊎◌, ℕ, Bool, true, false, List, Result}
use Rattle.hw_model.specs.Problem.{Problem}
use Rattle.hw_desk.specs.State.{DeskState}
use Rattle.hw_desk.specs.declared.desk.DeskFailed.{DeskFailed}
use Rattle.hw_cert_lines.specs.declared.check.Verdict.{Verdict}
use Rattle.hw_cert_lines.specs.declared.check.Verdict.TheVariants as verdicts
use Rattle.hw_cert.specs.declared.version.Version.TheVariants.{Three}
use Rattle.hw_cert.specs.Texts.{cert_text}
use Rattle.hw_cert_course.specs.declared.going_on.Course.{Course}
use Rattle.hw_cert_course.specs.declared.stop.CourseStop.{CourseStop}
use Rattle.hw_report.specs.declared.report.Head.{Head}
use Rattle.hw_report.specs.declared.report.Head.TheVariants.{Optimal, Infeasible, Unfinished, Memory}
use Rattle.hw_command.specs.Readings.{KeepsLines}
use Rattle.hw_command.specs.Sending.{SendsTo}
use Rattle.hw_command.specs.Starting.{StartsCourse, Unstarted, stop_outcome}
use Rattle.hw_command.specs.WorkEnds.{WorkEnds}
use Rattle.hw_command.specs.declared.ending.Ending.{Ending}
use Rattle.hw_command.specs.declared.outcome.CertOutcome.{CertOutcome}
use Rattle.hw_command.specs.declared.outcome.CertStop.{CertStop}
use Rattle.hw_search_resumed.specs.Going.{Resumes, ResumingStopsFor}
use Rattle.hw_search_resumed.specs.declared.resumed.Resumed.{Resumed}
use Rattle.hw_command_search.specs.declared.finding.Found.{Found}

-- ---- what was found

-- the head that a verdict tells, by whether the budget is spent; otherwise an open question is left because memory ran out
abbrev pub verdict_head : ℕ → Bool → Verdict → Head
verdict_head budget spent (verdicts.Optimal c) = Optimal c
verdict_head budget spent verdicts.Infeasible = Infeasible
verdict_head budget true (verdicts.Unfinished best) = Unfinished budget
verdict_head budget false (verdicts.Unfinished best) = Memory

abbrev pub resumed_found : ℕ → Resumed → Found
resumed_found budget r = record { head = verdict_head budget r.is_spent r.verdict; table = r.table; bound = r.bound }

-- ---- over a desk

-- the search that went on from it has no answer
pub record Unanswered (f : Problem) (cert : List ℕ) (old new : DeskState) (stopped : Result CertOutcome CertStop) : Type 0 where
  pub start : Course
  pub starts : StartsCourse f cert old new start
  pub stop : CourseStop
  pub cause : ResumingStopsFor f start.lines.items stop
  pub told : stopped ≡ stop_outcome stop

-- its lines with those that the search added are sent to Proof
pub record SendsResumed (f : Problem) (cert : List ℕ) (budget : ℕ) (proof : List ℕ) (old new : DeskState) (found : Found) (sent : Result Unit DeskFailed) : Type 0 where
  pub mid : DeskState
  pub start : Course
  pub starts : StartsCourse f cert old mid start
  pub resumed : Resumed
  pub found_in : found ≡ resumed_found budget resumed
  pub resumes : Resumes f budget start.lines.items resumed
  pub sends : SendsTo proof (cert_text Three resumed.lines.items) mid new sent

-- nothing is sent where the certificate isn't gone on from
abbrev pub ResumingStops : Problem → List ℕ → DeskState → DeskState → Result CertOutcome CertStop → Type 0
ResumingStops f cert old new stopped = Unstarted KeepsLines f cert old new stopped ⊎ Unanswered f cert old new stopped

-- what comes of a certificate
abbrev pub ResumesTo : Problem → List ℕ → ℕ → List ℕ → DeskState → DeskState → Ending Found → Type 0
ResumesTo f cert budget proof old new end = WorkEnds (ResumingStops f cert) (SendsResumed f cert budget proof) old new end
