-- A split that is chosen by the best timetable of a certificate, and sent.
use Rattle.std.specs.Prelude.{◌≡◌, ◌≤◌, ℕ, List, Option, Some, None, Result, Ok, count_by}
use Rattle.hw_model.specs.Problem.{Problem, shape_of}
use Rattle.hw_desk.specs.State.{DeskState}
use Rattle.hw_desk.specs.declared.desk.DeskFailed.{DeskFailed}
use Rattle.hw_cert_lines.specs.declared.check.Verdict.TheVariants as verdicts
use Rattle.hw_command.specs.Readings.{KeepsNone}
use Rattle.hw_command.specs.Sending.{SendsTo}
use Rattle.hw_command.specs.declared.outcome.CertOutcome.{CertOutcome}
use Rattle.hw_command.specs.declared.outcome.CertOutcome.TheVariants.{Shows, Wrong, TooLong}
use Rattle.hw_split_text.specs.declared.node.Node.{Node}
use Rattle.hw_split_text.specs.Splits.{IsSplit, is_part}
use Rattle.hw_split_text.specs.Text.{split_text}
use Rattle.hw_split_choice.specs.Chosen.{IsChosen}
use Rattle.hw_split_choice.specs.declared.chosen.ChosenSplit.{ChosenSplit}
use Rattle.hw_command.specs.Starting.{StartsOn, StopsOnStart}
use Rattle.hw_command.specs.WorkEnds.{WorkEnds}
use Rattle.hw_command.specs.declared.ending.Ending.{Ending}
use Rattle.hw_command_split.specs.declared.splitting.Sizes.{Sizes}

-- the best cargo known of a problem that is still open, or none; none at all where it isn't open
abbrev pub open_best : CertOutcome → Option (Option ℕ)
open_best (Shows (verdicts.Optimal c)) = None
open_best (Shows verdicts.Infeasible) = None
open_best (Shows (verdicts.Unfinished best)) = Some best
open_best (Wrong number word hint) = None
open_best TooLong = None

-- there is one part where the certificate leaves nothing open
abbrev pub IsUndivided : CertOutcome → List Node → Type 0
IsUndivided outcome nodes = open_best outcome ≡ None → count_by is_part nodes ≡ 1

-- a split of at most this many parts, of one where the certificate leaves nothing open
pub record IsChosenBy (f : Problem) (outcome : CertOutcome) (parts : ℕ) (c : ChosenSplit) : Type 0 where
  pub chosen : IsChosen f parts c
  pub undivided : IsUndivided outcome c.split

-- the bytes are the text of a split of the problem, of these nodes, which has at most this many parts
pub record IsMadeSplit (f : Problem) (parts : ℕ) (nodes : List Node) (text : List ℕ) : Type 0 where
  pub reads : split_text (shape_of f) text ≡ Ok nodes
  pub is : IsSplit (shape_of f) nodes
  pub few : count_by is_part nodes ≤ parts

-- a split is sent to Proof, of one part where what the certificate shows leaves nothing open
pub record SendsSplit (f : Problem) (start : List ℕ) (parts : ℕ) (proof : List ℕ) (old new : DeskState) (nodes : List Node) (sent : Result Unit DeskFailed) : Type 0 where
  pub mid : DeskState
  pub knows : StartsOn KeepsNone f start old mid
  pub text : List ℕ
  pub made : IsMadeSplit f parts nodes text
  pub undivided : IsUndivided (Shows knows.shows) nodes
  pub sends : SendsTo proof text mid new sent

-- a split of this many parts is sent; nothing is said of the number of tolls
abbrev pub SendsSizes : Problem → List ℕ → ℕ → List ℕ → DeskState → DeskState → Sizes → Result Unit DeskFailed → Type 0
SendsSizes f start parts proof old new sizes sent = (nodes : List Node) × (sizes.parts ≡ count_by is_part nodes) × SendsSplit f start parts proof old new nodes sent

-- what comes of a certificate
abbrev pub SplitsTo : Problem → List ℕ → ℕ → List ℕ → DeskState → DeskState → Ending Sizes → Type 0
SplitsTo f start parts proof old new end = WorkEnds (StopsOnStart KeepsNone f start) (SendsSizes f start parts proof) old new end
