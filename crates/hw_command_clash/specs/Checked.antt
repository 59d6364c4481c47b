-- What reading a subject, a clash text and its certificate gives, or why it gives nothing.
use Rattle.std.specs.Prelude.{◌≡◌, ℕ, List, None}
use Rattle.hw_desk.specs.State.{DeskState}
use Rattle.hw_report.specs.Printing.{AreNamesOf}
use Rattle.hw_report.specs.Reports.{Report}
use Rattle.hw_command.specs.Works.{StopsReading, Works}
use Rattle.hw_subject.specs.Reading.{naming_of}
use Rattle.hw_subject.specs.Subjects.{Subject}
use Rattle.hw_command_clash.specs.CheckClash.{ChecksClash, ClashChecks, ClashGives, check_clash_task}
use Rattle.hw_command_clash.specs.Texts.{report_of_part}
use Rattle.hw_command_clash.specs.declared.checking.CheckedClash.{CheckedClash}

-- all inputs were begun and no read failed: the certificate of the clash that was read has this outcome, and no more was done than before its report
pub record ReadsChecked (s : Subject) (name cert : List ℕ) (old new : DeskState) (read : CheckedClash) : Type 0 where
  pub works : Works (check_clash_task s name cert).inputs (ClashGives s name old.held) None old new (report_of_part read.outcome)
  pub checks : ChecksClash s name cert old.held read.outcome
  pub clash : read.clash ≡ checks.clash
  pub naming : naming_of read.given.named ≡ s.naming checks.value
  pub printable : AreNamesOf read.given.flat (naming_of read.given.named)

-- an input isn't read to its end, or is refused, as this report says
abbrev pub StopsAtClash : Subject → List ℕ → List ℕ → DeskState → DeskState → Report → Type 0
StopsAtClash s name cert old new r = StopsReading (check_clash_task s name cert).inputs (ClashGives s name old.held) (ClashChecks s name cert old.held) old new r
