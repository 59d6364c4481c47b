-- The outcome of solving a part.
use Rattle.std.specs.Prelude.{◌≡◌, ℕ, ◌≤◌, false, List, Some, length, ⊤}
use Rattle.hw_model.specs.Problem.{Problem}
use Rattle.hw_model.specs.Rooms.{room_count}
use Rattle.hw_model.specs.Timetables.{Permits, NonePermitted, cargo}
use Rattle.hw_cert_lines.specs.declared.check.Verdict.TheVariants.{Optimal, Infeasible}
use Rattle.hw_cert_lines.specs.declared.line.Line.{Line}
use Rattle.hw_cert_lines.specs.Lemmas.{lemmas_of}
use Rattle.hw_cert_lines.specs.Lines.{last_table, is_closed}
use Rattle.hw_cert_lines.specs.Valid.{verdict}
use Rattle.hw_clash.specs.declared.asking.Asked.{Asked}
use Rattle.hw_clash.specs.declared.asking.Asked.TheVariants.{Fits, NoneFits, Spent, NoMemory}
use Rattle.hw_search.specs.Going.{WellWritten}

pub record FitsAt (g : Problem) (table : List ℕ) (all : List Line) : Type 0 where
  pub permitted : Permits g table
  pub proof : WellWritten g all
  pub last : last_table all ≡ Some table
  pub shown : (c : ℕ) × (cargo g table ≡ Some c) × (verdict g all ≡ Optimal c)

pub record NoneAt (g : Problem) (all : List Line) : Type 0 where
  pub none : NonePermitted g
  pub proof : WellWritten g all
  pub shown : verdict g all ≡ Infeasible

pub record SpentAt (g : Problem) (budget : ℕ) (all : List Line) : Type 0 where
  pub proof : WellWritten g all
  pub lemmas : length (lemmas_of all) ≡ budget
  pub unclosed : is_closed all ≡ false
  pub few : budget ≤ room_count g

abbrev pub ClashAskMeets : Problem → ℕ → Asked → Type 0
ClashAskMeets g budget (Fits table proof) = FitsAt g table proof
ClashAskMeets g budget (NoneFits proof) = NoneAt g proof
ClashAskMeets g budget (Spent proof) = SpentAt g budget proof
ClashAskMeets g budget NoMemory = ⊤
