-- Reading a subject.
use Rattle.std.specs.Prelude.{◌≡◌, List, [], ◌∷◌, Option, Some, None, ⊤}
use Rattle.hw_model.specs.Problem.{Problem}
use Rattle.hw_flat.specs.TextWritten.{IsWritable}
use Rattle.hw_desk.specs.State.{DeskState}
use Rattle.hw_desk.specs.declared.desk.Feed.{Feed}
use Rattle.hw_report.specs.Printing.{AreNamesOf}
use Rattle.hw_report.specs.Reports.{Report, Naming, by_number, by_name}
use Rattle.hw_command.specs.Scope.{Named as Input, Entered}
use Rattle.hw_command.specs.Works.{StopsReading}
use Rattle.hw_repair.specs.Wishes.{PlanParts}
use Rattle.hw_subject.specs.Meanings.{judged}
use Rattle.hw_subject.specs.Subjects.{Subject}
use Rattle.hw_subject.specs.declared.plan_input.Repair.{Repair}
use Rattle.hw_subject.specs.declared.source.Named.{Named}
use Rattle.hw_subject.specs.declared.source.Named.TheVariants.{ByNumber, ByName}
use Rattle.hw_subject.specs.declared.subject.Given.{Given}

-- ---- what was read, in code

-- how ships are named
abbrev pub naming_of : Named → Naming
naming_of ByNumber = by_number
naming_of (ByName port tide) = by_name port tide

abbrev pub plan_in : Option Repair → Option PlanParts
plan_in None = None
plan_in (Some repair) = Some repair.plan

-- the problem that was read, or that of its repair
abbrev pub searched_in : Problem → Option Repair → Problem
searched_in f None = f
searched_in f (Some repair) = repair.flat

-- ---- what it is

-- each of some inputs gives its value
abbrev pub AllGive : (Feed → Type 0) → List Input → Type 0
AllGive Gives [] = ⊤
AllGive Gives (input ∷ more) = Gives input.feed × AllGive Gives more

-- all inputs were begun and no read failed: the problem, its names and the plan are those of what they give
pub record ReadsSubject (s : Subject) (old new : DeskState) (given : Given) : Type 0 where
  pub entered : Entered s.inputs old new
  pub read_faults : new.read_faults ≡ old.read_faults
  pub give : AllGive (s.Gives old.held) s.inputs
  pub value : s.Value
  pub reads : s.Reads old.held value
  pub problem : given.flat ≡ s.problem value
  pub naming : naming_of given.named ≡ s.naming value
  pub plan : plan_in given.repair ≡ s.plan value
  pub searched : searched_in given.flat given.repair ≡ judged s value
  pub printable : AreNamesOf given.flat (naming_of given.named)
  pub writable : IsWritable given.flat

-- why there is no value
abbrev pub StopsAtSubject : Subject → DeskState → DeskState → Report → Type 0
StopsAtSubject s old new r = StopsReading s.inputs (s.Gives old.held) (s.Refuses old.held) old new r
