-- What offering a search a timetable that somebody else found does.
use Rattle.std.specs.Prelude.{◌≡◌, ℕ, ◌≤◌, true, List, [], ◌∷◌, ◌++◌, Some, IsTrue}
use Rattle.hw_model.specs.Timetables.{cargo, beats}
use Rattle.hw_desk.specs.State.{Rose}
use Rattle.hw_cert_lines.specs.declared.line.Line.TheVariants as lines
use Rattle.hw_cert.specs.Logs.{LogModel, WhereTold, Grows, IsBegunLine}
use Rattle.hw_search_laws.specs.declared.outcome.Turn.{Turn}
use Rattle.hw_search_laws.specs.declared.outcome.Turn.TheVariants as turns
use Rattle.hw_search_laws.specs.Searches.{SearchModel, LogFits, best_cargo}
use Rattle.hw_search_laws.specs.Turns.{WritesWell, FailsAt}

-- the timetable's cargo beats the best
abbrev pub IsBetter : SearchModel → List ℕ → Type 0
IsBetter s table = (c : ℕ) × (cargo s.problem table ≡ Some c) × IsTrue (beats c (best_cargo s))

-- it is the best from then on, and all else is as before: its line was written, alone
pub record TakesOffer (s : SearchModel) (table : List ℕ) (after : SearchModel) (old new : LogModel) : Type 0 where
  pub better : after ≡ record s { best = Some table }
  pub written : Grows old new (λ was now. (now.lines ≡ was.lines ++ lines.Table table ∷ []) × WritesWell s.problem was.lines (lines.Table table ∷ []))
  pub fits : WhereTold new (λ now. LogFits now after)

-- the search is over, all else of it is as before, and nothing was written
pub record LeavesOffer (s after : SearchModel) (old new : LogModel) : Type 0 where
  pub over : after ≡ record s { over = true }
  pub no_line : Grows old new (λ was now. now ≡ was)

-- the search is over, all else of it is as before, and the table's line failed
pub record LosesOffer (s : SearchModel) (table : List ℕ) (after : SearchModel) (old new : LogModel) : Type 0 where
  pub over : after ≡ record s { over = true }
  pub cause : Rose old.faults new.faults
  pub failed : WhereTold new (FailsAt s.problem)
  pub begun : Grows old new (λ was now. (now.lines ≡ was.lines) × IsBegunLine (lines.Table table) now.remainder)

-- what an offer does, by its answer
abbrev pub OfferDoes : SearchModel → List ℕ → LogModel → Turn → SearchModel → LogModel → Type 0
OfferDoes s table old turns.Decided after new = ⊥
OfferDoes s table old turns.Better after new = TakesOffer s table after old new
OfferDoes s table old turns.Lemma after new = ⊥
OfferDoes s table old turns.Ended after new = ⊥
OfferDoes s table old turns.NoMemory after new = LeavesOffer s after old new
OfferDoes s table old turns.LogFailed after new = LosesOffer s table after old new

-- what an offer meets. It needs a search that isn't over, a log that fits it, and a permitted timetable that beats its best
pub record OfferMeets (s : SearchModel) (table : List ℕ) (old : LogModel) (turn : Turn) (after : SearchModel) (new : LogModel) : Type 0 where
  pub later : old.faults ≤ new.faults
  pub does : OfferDoes s table old turn after new
