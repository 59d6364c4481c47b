-- What a whole solution meets.
use Rattle.std.specs.Prelude.{◌≡◌, ℕ, ◌≤◌, Bool, true, false, List, Option, Some, None, All, IfSome, length, ⊤}
use Rattle.hw_model.specs.Problem.{Problem}
use Rattle.hw_model.specs.Timetables.{Permits, cargo, IsBest, NonePermitted}
use Rattle.hw_model.specs.Rooms.{room_count}
use Rattle.hw_desk.specs.State.{Rose}
use Rattle.hw_cert_lines.specs.declared.line.Line.{Line}
use Rattle.hw_cert_lines.specs.Tolled.{is_plain}
use Rattle.hw_cert_lines.specs.Lines.{last_table, is_closed, ends}
use Rattle.hw_cert_lines.specs.Valid.{LineFits, Valid}
use Rattle.hw_cert_lines.specs.Lemmas.{lemmas_of, IsNew, IsLean}
use Rattle.hw_search_laws.specs.declared.outcome.Solved.{Solved}
use Rattle.hw_search_laws.specs.declared.outcome.Solved.TheVariants.{Optimal, Infeasible, Unfinished, NoMemory, LogFailed}
use Rattle.hw_cert.specs.Logs.{LogModel, WhereTold, IsWhole, Grows}
use Rattle.hw_search_laws.specs.Living.{FewLiveThroughout}
use Rattle.hw_search_laws.specs.Turns.{FailsAt}

-- the answer is Optimal or Infeasible
abbrev pub is_proved : Solved → Bool
is_proved (Optimal table c) = true
is_proved Infeasible = true
is_proved (Unfinished table) = false
is_proved (NoMemory table) = false
is_proved LogFailed = false

-- what each answer says of the lines
abbrev pub AnswerTells : Problem → ℕ → Solved → List Line → Type 0
AnswerTells f budget (Optimal table c) all = (last_table all ≡ Some table) × (cargo f table ≡ Some c)
AnswerTells f budget Infeasible all = last_table all ≡ None
AnswerTells f budget (Unfinished table) all = (last_table all ≡ table) × (length (lemmas_of all) ≡ budget) × (is_closed all ≡ false)
AnswerTells f budget (NoMemory table) all = last_table all ≡ table
AnswerTells f budget LogFailed all = ⊤

-- Unfinished, or out of memory, which may come at any time
abbrev pub may_be_spent : Solved → Bool
may_be_spent (Optimal table c) = false
may_be_spent Infeasible = false
may_be_spent (Unfinished table) = true
may_be_spent (NoMemory table) = true
may_be_spent LogFailed = false

-- the lines of a solution, which say nothing of tolls or prices, and the answer by them; the log's faults were `before` and are `now`
pub record SolveWrites (f : Problem) (budget : ℕ) (answer : Solved) (before now : ℕ) (all : List Line) : Type 0 where
  pub plain : All (λ line. is_plain line ≡ true) all
  pub fit : All (LineFits f) all
  pub valid : Valid f all
  pub lean : IsLean f all
  pub new : IsNew f all
  pub few_live : FewLiveThroughout f all
  pub proved_just : is_proved answer ≡ ends all
  pub tells : AnswerTells f budget answer all
  pub lemmas : length (lemmas_of all) ≤ budget
  pub spent : (Rose before now → ⊥) → length (lemmas_of all) ≡ budget → is_closed all ≡ false → may_be_spent answer ≡ true

-- the timetable of an answer
abbrev pub solved_timetable : Solved → Option (List ℕ)
solved_timetable (Optimal table c) = Some table
solved_timetable Infeasible = None
solved_timetable (Unfinished table) = table
solved_timetable (NoMemory table) = table
solved_timetable LogFailed = None

-- the cargo of an answer is that of its timetable, also where the lines are untold
abbrev pub IsWorth : Problem → Solved → Type 0
IsWorth f (Optimal table c) = cargo f table ≡ Some c
IsWorth f Infeasible = ⊤
IsWorth f (Unfinished table) = ⊤
IsWorth f (NoMemory table) = ⊤
IsWorth f LogFailed = ⊤

-- a failure has its cause, and leaves the line that failed
abbrev pub SolveFails : Problem → LogModel → LogModel → Solved → Type 0
SolveFails f old new (Optimal table c) = IsWhole new
SolveFails f old new Infeasible = IsWhole new
SolveFails f old new (Unfinished table) = IsWhole new
SolveFails f old new (NoMemory table) = IsWhole new
SolveFails f old new LogFailed = Rose old.faults new.faults × WhereTold new (FailsAt f)

-- what an answer means, also where the lines are untold: Optimal's timetable is a best one, Infeasible says that none is permitted, and Unfinished comes with no more lemmas than rooms
abbrev pub AnswerMeans : Problem → ℕ → Solved → Type 0
AnswerMeans f budget (Optimal table c) = IsBest f table c
AnswerMeans f budget Infeasible = NonePermitted f
AnswerMeans f budget (Unfinished table) = budget ≤ room_count f
AnswerMeans f budget (NoMemory table) = ⊤
AnswerMeans f budget LogFailed = ⊤

-- what solving meets. It needs a budget in its limit and a log without lines
pub record SolveMeets (f : Problem) (budget : ℕ) (old : LogModel) (answer : Solved) (new : LogModel) : Type 0 where
  pub later : old.faults ≤ new.faults
  pub writes : Grows old new (λ was now. SolveWrites f budget answer old.faults new.faults now.lines)
  pub permitted : IfSome (solved_timetable answer) (Permits f)
  pub worth : IsWorth f answer
  pub means : AnswerMeans f budget answer
  pub ends : SolveFails f old new answer
