-- `demo NUMBER SHIPS SLOTS BUDGET PROOF`: a demonstration is solved, and its certificate is checked and sent to Proof.
use Rattle.std.specs.Prelude.{◌≡◌, ◌≤◌, ℕ, List, [], Option, Some, None, IfSome, ⊤, length}
use Rattle.hw_model.specs.declared.limits.TheConstants.{MOST_SHIPS, MOST_SLOTS}
use Rattle.hw_model.specs.Problem.{Problem}
use Rattle.hw_model.specs.Rooms.{room_count}
use Rattle.hw_model.specs.Timetables.{Permits}
use Rattle.hw_desk.specs.State.{DeskState}
use Rattle.hw_desk.specs.declared.desk.Tray.TheVariants as tray
use Rattle.hw_cert_lines.specs.declared.check.Verdict.{Verdict}
use Rattle.hw_cert_lines.specs.declared.check.Verdict.TheVariants as verdicts
use Rattle.hw_cert_lines.specs.declared.line.Line.{Line}
use Rattle.hw_cert_lines.specs.Lemmas.{lemmas_of}
use Rattle.hw_cert_lines.specs.Lines.{best_of, last_table}
use Rattle.hw_cert_lines.specs.Valid.{verdict}
use Rattle.hw_cert.specs.declared.version.Version.TheVariants.{Two}
use Rattle.hw_cert.specs.Texts.{cert_text}
use Rattle.hw_search_laws.specs.declared.outcome.Solved.{Solved}
use Rattle.hw_search_laws.specs.declared.outcome.Solved.TheVariants as answers
use Rattle.hw_report.specs.Reports.{Report, demo}
use Rattle.hw_report.specs.declared.report.Head.{Head}
use Rattle.hw_report.specs.declared.report.Head.TheVariants as heads
use Rattle.hw_command.specs.Carries.{Task, one_report}
use Rattle.hw_command.specs.Scope.{MakesProof}
use Rattle.hw_command.specs.Sending.{IsCutOf}
use Rattle.hw_command_search.specs.Certified.{HeadMeans, IsWritten, HeadSpendsBudget, head_verdict}
use Rattle.hw_command_search.specs.Searchers.{solving}

-- the limits of a demonstration
abbrev pub most_ships : ℕ
most_ships = MOST_SHIPS

abbrev pub most_slots : ℕ
most_slots = MOST_SLOTS

-- a demonstration of this size can be drawn
pub record CanDraw (ships slots : ℕ) : Type 0 where
  pub some_ship : 1 ≤ ships
  pub few_ships : ships ≤ most_ships
  pub some_slot : 1 ≤ slots
  pub few_slots : slots ≤ most_slots

-- the head of something that was found, which out of memory is not
abbrev pub HeadIsFound : Head → Type 0
HeadIsFound (heads.Optimal c) = ⊤
HeadIsFound heads.Infeasible = ⊤
HeadIsFound (heads.Unfinished budget) = ⊤
HeadIsFound heads.Memory = ⊥

-- lines of a problem that was solved, and what a summary says of them
pub record Demonstrates (f : Problem) (budget : ℕ) (head : Head) (best : Option ℕ) (shown : Verdict) (lemmas : ℕ) (all : List Line) : Type 0 where
  pub written : IsWritten solving f budget all
  -- the last table is permitted, and what the head says of the problem is true
  pub permitted : IfSome (last_table all) (Permits f)
  pub found : HeadIsFound head
  pub means : HeadMeans f budget (room_count f) head (last_table all)
  -- the cargo is that of the last table
  pub cargo : best ≡ best_of f all
  -- the check and the head tell the verdict of the lines
  pub checked : shown ≡ verdict f all
  pub tells : verdict f all ≡ head_verdict head best
  pub spent : HeadSpendsBudget budget head all
  pub counted : lemmas ≡ length (lemmas_of all)

-- such lines; Proof was made, and holds their text where it is told
pub record ShowsDemonstration (f : Problem) (budget : ℕ) (proof : List ℕ) (old new : DeskState) (head : Head) (best : Option ℕ) (shown : Verdict) (lemmas : ℕ) : Type 0 where
  pub lines : List Line
  pub demonstrates : Demonstrates f budget head best shown lemmas lines
  pub made : MakesProof proof old new
  pub holds : IfSome (new.trays tray.Proof).sent (λ bytes. bytes ≡ cert_text Two lines)

-- lines of the problem; after a failed make or write Proof holds a proper prefix of their text, where it is told
pub record ShowsPart (f : Problem) (budget : ℕ) (new : DeskState) : Type 0 where
  pub lines : List Line
  pub written : IsWritten solving f budget lines
  pub part : IfSome (new.trays tray.Proof).sent (IsCutOf (cert_text Two lines))

-- what the report of a demonstration says; none is a write fault on Proof. Out of memory is common to all commands, and no other report is given
abbrev pub DemoSays : Problem → ℕ → List ℕ → DeskState → DeskState → Option Report → Type 0
DemoSays f budget proof old new None = ShowsPart f budget new
DemoSays f budget proof old new (Some (demo head best shown lemmas)) = ShowsDemonstration f budget proof old new head best shown lemmas
DemoSays f budget proof old new (Some r) = ⊥

-- no input is read, so none gives anything
abbrev pub demo_task : Problem → ℕ → List ℕ → Task
demo_task f budget proof = record {
  inputs = [];
  Gives = λ held feed. ⊥;
  proof = Some proof;
  Says = one_report (DemoSays f budget proof);
}

-- ---- the calls

-- the head of what a search found, or none if memory ran out; a log in memory doesn't fail
abbrev pub head_of : ℕ → Solved → Option Head
head_of budget (answers.Optimal table c) = Some (heads.Optimal c)
head_of budget answers.Infeasible = Some heads.Infeasible
head_of budget (answers.Unfinished table) = Some (heads.Unfinished budget)
head_of budget (answers.NoMemory table) = None
head_of budget answers.LogFailed = None

-- the best cargo in a verdict
abbrev pub best_in : Verdict → Option ℕ
best_in (verdicts.Optimal c) = Some c
best_in verdicts.Infeasible = None
best_in (verdicts.Unfinished best) = best
