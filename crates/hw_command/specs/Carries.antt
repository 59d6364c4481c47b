-- A command that is carried out: its work over a desk, and then its reports.
use Rattle.std.specs.Prelude.{◌≡◌, ℕ, List, [], ◌∷◌, Bool, false, Option, Some, None}
use Rattle.hw_desk.specs.State.{DeskState}
use Rattle.hw_desk.specs.declared.desk.Feed.{Feed}
use Rattle.hw_report.specs.Reports.{Report}
use Rattle.hw_command.specs.Ends.{Ends}
use Rattle.hw_command.specs.Scope.{Named}
use Rattle.hw_command.specs.Works.{WorksTo, is_common}
use Rattle.hw_command.specs.declared.status.Status.{Status}

-- what a command has to do
pub record Task : Type 1 where
  -- its inputs, in the order in which they are begun
  pub inputs : List Named
  -- by its feed, what an input gives before the next one is begun, where these bytes are held under the names
  pub Gives : (List ℕ → Option (List ℕ)) → Feed → Type 0
  -- the name of Proof, if the command makes it
  pub proof : Option (List ℕ)
  -- what its reports say of the desk before and after the work. No report is a write fault on Proof
  pub Says : DeskState → DeskState → List Report → Type 0

-- what a command of one report says
abbrev pub one_report : (DeskState → DeskState → Option Report → Type 0) → DeskState → DeskState → List Report → Type 0
one_report Says old mid [] = Says old mid None
one_report Says old mid (r ∷ []) = Says old mid (Some r)
one_report Says old mid (r ∷ next ∷ more) = ⊥

-- whether a lone report has its cause in the work, whatever the command
abbrev pub are_common : List Report → Bool
are_common [] = false
are_common (r ∷ []) = is_common r
are_common (r ∷ next ∷ more) = false

-- a command's work, and then its reports, which say what they have to, unless their cause is common to all commands
pub record Carries (task : Task) (old new : DeskState) (s : Status) : Type 0 where
  pub mid : DeskState
  pub reports : List Report
  pub works : WorksTo task.inputs (task.Gives old.held) task.proof old mid reports
  pub says : are_common reports ≡ false → task.Says old mid reports
  pub ends : Ends reports mid new s
