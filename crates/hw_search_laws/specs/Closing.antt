-- How a search is closed where its best timetable reaches the last bound.
use Rattle.std.specs.Prelude.{◌≡◌, ◌≤◌, true, [], ◌∷◌, ◌++◌, IsSomeAnd}
use Rattle.hw_model.specs.Problem.{Problem}
use Rattle.hw_cert_lines.specs.declared.line.Line.TheVariants as lines
use Rattle.hw_cert.specs.Logs.{LogTold, LogModel, Grows}
use Rattle.hw_search_laws.specs.declared.outcome.Closed.{Closed}
use Rattle.hw_search_laws.specs.declared.outcome.Closed.TheVariants as closes
use Rattle.hw_search_laws.specs.declared.outcome.Turn.TheVariants as turns
use Rattle.hw_search_laws.specs.Living.{FewLiveFrom}
use Rattle.hw_search_laws.specs.Searches.{SearchModel, PricesShow, best_cargo}
use Rattle.hw_search_laws.specs.Advised.{WritesGood, Heeds, StopsBound}
use Rattle.hw_cert_lines.specs.Lines.{last_priced}

-- the best timetable carries at least the last bound
abbrev pub IsReached : SearchModel → Type 0
IsReached s = IsSomeAnd s.prices.bound (λ bound. IsSomeAnd (best_cargo s) (λ best. bound ≤ best))

-- the last line was written, and is good after those before it
pub record WritesLast (f : Problem) (was now : LogTold) : Type 0 where
  pub lines : now.lines ≡ was.lines ++ last_priced ∷ []
  pub no_remainder : now.remainder ≡ []
  pub good : WritesGood f was.lines (last_priced ∷ [])
  pub few_live : FewLiveFrom f was.lines (last_priced ∷ [])

-- the best reaches the last bound: the tariff that shows it is in force, the last line was written, and the search is over
pub record Closes (s after : SearchModel) (old new : LogModel) : Type 0 where
  pub reached : IsReached s
  pub mid : SearchModel
  pub then : LogModel
  pub heeds : Heeds s mid old then
  pub shown : PricesShow mid []
  pub over : after ≡ record mid { over = true }
  pub same_faults : new.faults ≡ then.faults
  pub writes : Grows then new (WritesLast mid.problem)

-- what the call meets, by its answer
abbrev pub CloseMeets : SearchModel → LogModel → Closed → SearchModel → LogModel → Type 0
CloseMeets s old closes.Open after new = (after ≡ s) × (new ≡ old) × (IsReached s → ⊥)
CloseMeets s old closes.Ended after new = Closes s after old new
CloseMeets s old closes.NoMemory after new = StopsBound s old turns.NoMemory after new
CloseMeets s old closes.LogFailed after new = StopsBound s old turns.LogFailed after new
