-- The steps of a solution with advice, whatever problem, budget and log it began with.
use Rattle.std.specs.Prelude.{◌≡◌, ℕ, ◌+◌, ◌≤◌, IfSome, ⊤}
use Rattle.hw_model.specs.Problem.{Problem}
use Rattle.hw_model.specs.Timetables.{Permits}
use Rattle.hw_cert.specs.Logs.{LogModel}
use Rattle.hw_search_laws.specs.declared.limits.TheConstants.{MOST_BUDGET}
use Rattle.hw_search_laws.specs.declared.outcome.Solved.{Solved}
use Rattle.hw_search_laws.specs.declared.outcome.Solved.TheVariants as answers
use Rattle.hw_search_laws.specs.Closing.{IsReached}
use Rattle.hw_search_laws.specs.Proving.{ProveMeets, Proving, IsEndOf}
use Rattle.hw_search_laws.specs.Searches.{SearchModel, IsSearch}
use Rattle.hw_search_advised.specs.declared.stepping.Step.{Step}
use Rattle.hw_search_advised.specs.declared.stepping.Step.TheVariants as steps
use Rattle.hw_search.specs.Going.{turns_left}

-- a search that isn't over, with a log that fits it
pub record CanGoOn (s : SearchModel) (here : LogModel) : Type 0 where
  pub kept : IsSearch s
  pub going : Proving s.problem MOST_BUDGET s here here

-- the solution goes on, with at most `k` lemmas more and at least `k` turns fewer to come
pub record StepsOn (k : ℕ) (f : Problem) (budget : ℕ) (old : LogModel) (s u : SearchModel) (now : LogModel) : Type 0 where
  pub kept : IsSearch u
  pub going : Proving f budget u old now
  pub few : u.lemmas ≤ s.lemmas + k
  pub left : turns_left budget u + k ≤ turns_left budget s

-- what a step leaves, by its answer: the solution goes on, or each right answer meets what it must
abbrev pub StepLeaves : ℕ → Problem → ℕ → LogModel → SearchModel → Step → SearchModel → LogModel → Type 0
StepLeaves k f budget old s steps.GoesOn u now = StepsOn k f budget old s u now
StepLeaves k f budget old s steps.Ended u now = IfSome u.best (Permits f) × ((answer : Solved) → IsEndOf f u.best answer → ProveMeets f budget old answer u.prices.bound now)
StepLeaves k f budget old s steps.NoMemory u now = ProveMeets f budget old (answers.NoMemory u.best) u.prices.bound now
StepLeaves k f budget old s steps.LogFailed u now = ProveMeets f budget old answers.LogFailed u.prices.bound now

-- what a step of at most `k` lemmas meets
abbrev pub StepMeets : ℕ → SearchModel → LogModel → Step → SearchModel → LogModel → Type 0
StepMeets k s here step u now = (f : Problem) (budget : ℕ) (old : LogModel) → Proving f budget s old here → s.lemmas + k ≤ budget → StepLeaves k f budget old s step u now

-- after a look the best is below the last bound, and there are as many lemmas as before
abbrev pub StepLooked : SearchModel → Step → SearchModel → Type 0
StepLooked s steps.GoesOn u = (IsReached u → ⊥) × (u.lemmas ≡ s.lemmas)
StepLooked s steps.Ended u = ⊤
StepLooked s steps.NoMemory u = ⊤
StepLooked s steps.LogFailed u = ⊤

-- the step had no fault of the log, unless it says that the log failed
abbrev pub StepKeepsFaults : Step → LogModel → LogModel → Type 0
StepKeepsFaults steps.GoesOn old new = new.faults ≡ old.faults
StepKeepsFaults steps.Ended old new = new.faults ≡ old.faults
StepKeepsFaults steps.NoMemory old new = new.faults ≡ old.faults
StepKeepsFaults steps.LogFailed old new = ⊤
