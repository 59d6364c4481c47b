-- `clash` of any subject: restrictions, and wishes of the plan that is repaired, that can't be met together, or a timetable that meets all, with its certificate.
use Rattle.std.specs.Prelude.{◌≡◌, ℕ, List, Option, Some, None}
use Rattle.hw_desk.specs.State.{DeskState}
use Rattle.hw_report.specs.Reports.{Report, clashed, met, spent_step}
use Rattle.hw_command.specs.Carries.{Task, one_report}
use Rattle.hw_subject.specs.Subjects.{Subject}
use Rattle.hw_command_clash.specs.Found.{Found, a_clash, a_table, a_step, ShowsFound, ShowsClashPart}
use Rattle.hw_command_clash.specs.PortWords.{FoundOf}
use Rattle.hw_command_clash.specs.Asked.{asked}

-- what is read of the inputs, each where it is told, and what was found of it, of a port in its own words too. Proof was made and holds what shows it: restrictions have their numbers in the problem, and wishes the next ones
pub record ClashesSubject (s : Subject) (budget : ℕ) (proof : List ℕ) (old new : DeskState) (found : Found) : Type 0 where
  pub value : s.Value
  pub reads : s.Reads old.held value
  pub means : FoundOf s value found
  pub shows : ShowsFound (asked s value) budget proof old new found

-- the same, and what Proof holds after a failed make or write of it
pub record ClashBreaks (s : Subject) (budget : ℕ) (old new : DeskState) : Type 0 where
  pub value : s.Value
  pub reads : s.Reads old.held value
  pub shows : ShowsClashPart (asked s value) budget new

-- what a report says of the inputs, each where it is told, and of Proof; none is a write fault on Proof. Apart from out of memory, no two kinds of report hold together where these are told; no other is given
abbrev pub ClashSays : Subject → ℕ → List ℕ → DeskState → DeskState → Option Report → Type 0
ClashSays s budget proof old new None = ClashBreaks s budget old new
ClashSays s budget proof old new (Some (clashed kept drops)) = ClashesSubject s budget proof old new (a_clash kept drops)
ClashSays s budget proof old new (Some (met table)) = ClashesSubject s budget proof old new (a_table table)
ClashSays s budget proof old new (Some (spent_step spent step)) = (spent ≡ budget) × ClashesSubject s budget proof old new (a_step step)
ClashSays s budget proof old new (Some r) = s.Refuses old.held r

abbrev pub clash_task : Subject → ℕ → List ℕ → Task
clash_task s budget proof = record {
  inputs = s.inputs;
  Gives = s.Gives;
  proof = Some proof;
  Says = one_report (ClashSays s budget proof);
}
