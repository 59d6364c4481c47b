-- What a whole solution with advice meets, and what holds of one that goes on.
use Rattle.std.specs.Prelude.{◌≡◌, ℕ, ◌<◌, ◌≤◌, true, false, List, Option, Some, None, All, IfSome, length, option_and_then, ⊤}
use Rattle.hw_model.specs.Problem.{Problem}
use Rattle.hw_model.specs.Timetables.{Permits, cargo}
use Rattle.hw_desk.specs.State.{Rose}
use Rattle.hw_cert_lines.specs.declared.line.Line.{Line}
use Rattle.hw_cert_lines.specs.Lines.{is_closed, ends}
use Rattle.hw_cert_lines.specs.Tolled.{bound_of}
use Rattle.hw_cert_lines.specs.Valid.{LineFits, Valid}
use Rattle.hw_cert_lines.specs.Lemmas.{lemmas_of, IsNew, IsLean}
use Rattle.hw_cert.specs.Logs.{LogTold, LogModel, WhereTold, IsWhole, Grows}
use Rattle.hw_search_laws.specs.declared.outcome.Solved.{Solved}
use Rattle.hw_search_laws.specs.declared.outcome.Solved.TheVariants.{Optimal, Infeasible, Unfinished, NoMemory, LogFailed}
use Rattle.hw_search_laws.specs.Living.{FewLiveThroughout}
use Rattle.hw_cert_laws.specs.Laws.{IsBound}
use Rattle.hw_search_laws.specs.Searches.{SearchModel, LogFits}
use Rattle.hw_search_laws.specs.Solving.{is_proved, AnswerTells, may_be_spent, solved_timetable, IsWorth, AnswerMeans}
use Rattle.hw_search_laws.specs.Advised.{IsCutOff}

-- ---- the lines

-- lines of the problem's shape, valid, lean and new, with few clauses live after each
pub record WrittenGood (f : Problem) (all : List Line) : Type 0 where
  pub fit : All (LineFits f) all
  pub valid : Valid f all
  pub lean : IsLean f all
  pub new : IsNew f all
  pub few_live : FewLiveThroughout f all

-- the lines of a solution with advice, and the answer and the bound by them; the log's faults were `before` and are `now`
pub record ProveWrites (f : Problem) (budget : ℕ) (answer : Solved) (bound : Option ℕ) (before now : ℕ) (all : List Line) : Type 0 where
  pub good : WrittenGood f all
  pub proved_just : is_proved answer ≡ ends all
  pub tells : AnswerTells f budget answer all
  pub last_bound : bound_of all ≡ bound
  pub lemmas : length (lemmas_of all) ≤ budget
  pub spent : (Rose before now → ⊥) → length (lemmas_of all) ≡ budget → is_closed all ≡ false → may_be_spent answer ≡ true

-- a failure has its cause, and leaves the line that failed
abbrev pub ProveFails : Problem → LogModel → LogModel → Solved → Type 0
ProveFails f old new (Optimal table c) = IsWhole new
ProveFails f old new Infeasible = IsWhole new
ProveFails f old new (Unfinished table) = IsWhole new
ProveFails f old new (NoMemory table) = IsWhole new
ProveFails f old new LogFailed = Rose old.faults new.faults × WhereTold new (IsCutOff f)

-- a bound beside Unfinished is above the cargo of its timetable: the two together would have closed the search
abbrev pub IsAbove : Problem → Solved → Option ℕ → Type 0
IsAbove f (Optimal table c) bound = ⊤
IsAbove f Infeasible bound = ⊤
IsAbove f (Unfinished table) bound = IfSome bound (λ most. IfSome (option_and_then (cargo f) table) (λ c. c < most))
IsAbove f (NoMemory table) bound = ⊤
IsAbove f LogFailed bound = ⊤

-- what a solution with advice meets. It needs a budget in its limit and a log without lines
pub record ProveMeets (f : Problem) (budget : ℕ) (old : LogModel) (answer : Solved) (bound : Option ℕ) (new : LogModel) : Type 0 where
  pub later : old.faults ≤ new.faults
  pub writes : Grows old new (λ was now. ProveWrites f budget answer bound old.faults new.faults now.lines)
  pub permitted : IfSome (solved_timetable answer) (Permits f)
  pub worth : IsWorth f answer
  pub means : AnswerMeans f budget answer
  pub bounded : IfSome bound (IsBound f)
  pub above : IsAbove f answer bound
  pub ends : ProveFails f old new answer

-- ---- on the way

-- the lines so far, and the search that they fit
pub record ProvedSoFar (f : Problem) (s : SearchModel) (now : LogTold) : Type 0 where
  pub fits : LogFits now s
  pub good : WrittenGood f now.lines
  pub lemmas : length (lemmas_of now.lines) ≡ s.lemmas

-- a solution with advice that goes on: the log was `old` as it began
pub record Proving (f : Problem) (budget : ℕ) (s : SearchModel) (old now : LogModel) : Type 0 where
  pub same_problem : s.problem ≡ f
  pub going : s.over ≡ false
  pub within : s.lemmas ≤ budget
  pub later : old.faults ≤ now.faults
  pub told : Grows old now (λ was here. ProvedSoFar f s here)

-- ---- the end

-- the answer of a search that ended with this best timetable or none
abbrev pub IsEndOf : Problem → Option (List ℕ) → Solved → Type 0
IsEndOf f None answer = answer ≡ Infeasible
IsEndOf f (Some table) answer = (c : ℕ) × (answer ≡ Optimal table c) × (cargo f table ≡ Some c)
