-- What a search for a clash found, and what of it is sent.
use Rattle.std.specs.Prelude.{◌≡◌, ℕ, List, [], ◌∷◌, Option, Some, None, Result, Ok, Err, IfSome}
use Rattle.hw_desk.specs.State.{DeskState}
use Rattle.hw_desk.specs.declared.desk.DeskFailed.{DeskFailed}
use Rattle.hw_desk.specs.declared.desk.Tray.TheVariants as tray
use Rattle.hw_cert_lines.specs.declared.line.Line.{Line}
use Rattle.hw_cert.specs.declared.version.Version.TheVariants.{Two}
use Rattle.hw_cert.specs.Texts.{cert_text}
use Rattle.hw_clash.specs.declared.clashing.Clashed.{Clashed}
use Rattle.hw_clash.specs.declared.clashing.Clashed.TheVariants as answers
use Rattle.hw_clash.specs.Outcomes.{IsClashFound, IsMet, IsSpentAt}
use Rattle.hw_clash.specs.Text.{clash_by, clash_text}
use Rattle.hw_clash.specs.Wished.{Wished}
use Rattle.hw_report.specs.Reports.{Report, clashed, met, spent_step, no_memory}
use Rattle.hw_report.specs.Texts.{report_text}
use Rattle.hw_command.specs.Ends.{Ends, EndsWith}
use Rattle.hw_command.specs.Scope.{MakesProof}
use Rattle.hw_command.specs.Sending.{IsCutOf, SendsTo}
use Rattle.hw_command.specs.declared.status.Status.{Status}

-- restrictions that can't be met together, with timetables; a timetable that meets all; or a step in which the budget was spent
pub data Found : Type 0 where
  a_clash : List ℕ → List (List ℕ) → Found
  a_table : List ℕ → Found
  a_step : ℕ → Found

-- the clash of the problem, whose printed text reads back as it
pub record IsClashTold (f : Wished) (kept : List ℕ) (drops : List (List ℕ)) (all : List Line) : Type 0 where
  pub found : IsClashFound f kept drops all
  pub back : clash_text f (report_text (clashed kept drops)) ≡ Ok (clash_by kept drops)

-- these lines show what was found: where nothing is permitted that meets all wishes, the clash, by the part of it; such a timetable, by the part of all restrictions; or that the budget was spent in the step, by the part of which it asks. A later step than the first is spent only where there is none
abbrev pub IsFound : Wished → ℕ → Found → List Line → Type 0
IsFound f budget (a_clash kept drops) all = IsClashTold f kept drops all
IsFound f budget (a_table table) all = IsMet f table all
IsFound f budget (a_step step) all = IsSpentAt f budget step all

-- lines that show what was found; Proof was made, and holds their text where it is told
pub record ShowsFound (f : Wished) (budget : ℕ) (proof : List ℕ) (old new : DeskState) (found : Found) : Type 0 where
  pub lines : List Line
  pub shown : IsFound f budget found lines
  pub made : MakesProof proof old new
  pub holds : IfSome (new.trays tray.Proof).sent (λ bytes. bytes ≡ cert_text Two lines)

-- lines that show what was found; after a failed make or write Proof holds a proper prefix of their text, where it is told
pub record ShowsClashPart (f : Wished) (budget : ℕ) (new : DeskState) : Type 0 where
  pub found : Found
  pub lines : List Line
  pub shown : IsFound f budget found lines
  pub cut : IfSome (new.trays tray.Proof).sent (IsCutOf (cert_text Two lines))

-- ---- the calls

-- the certificate of an answer, and none where memory ran out
abbrev pub lines_found : Clashed → Option (List Line)
lines_found (answers.Clash kept drops proof) = Some proof
lines_found (answers.Met table proof) = Some proof
lines_found (answers.Spent step proof) = Some proof
lines_found answers.NoMemory = None

-- the report of an answer
abbrev pub report_found : ℕ → Clashed → Report
report_found budget (answers.Clash kept drops proof) = clashed kept.items drops.items
report_found budget (answers.Met table proof) = met table
report_found budget (answers.Spent step proof) = spent_step budget step
report_found budget answers.NoMemory = no_memory

-- the report, unless a make or a write of Proof failed
abbrev pub report_after : Report → Result Unit DeskFailed → Option Report
report_after r (Ok done) = Some r
report_after r (Err failed) = None

-- Proof was made under its name and these lines were sent there, and then the report
pub record SendsBoth (all : List Line) (r : Report) (proof : List ℕ) (old new : DeskState) (s : Status) : Type 0 where
  pub mid : DeskState
  pub sent : Result Unit DeskFailed
  pub sends : SendsTo proof (cert_text Two all) old mid sent
  pub ends : EndsWith (report_after r sent) mid new s

-- without a certificate the report alone is sent
abbrev pub SendsFound : Option (List Line) → Report → List ℕ → DeskState → DeskState → Status → Type 0
SendsFound None r proof old new s = Ends (r ∷ []) old new s
SendsFound (Some all) r proof old new s = SendsBoth all r proof old new s
