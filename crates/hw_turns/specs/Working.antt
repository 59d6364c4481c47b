-- What a crew meets.
use Rattle.std.specs.Prelude.{◌≡◌, ℕ, ◌*◌, ◌≤◌, Bool, true, false, List, Option, Some, None, All, IfSome, length, ⊤}
use Rattle.hw_model.specs.Problem.{Problem}
use Rattle.hw_model.specs.Timetables.{Permits, cargo, IsBest, NonePermitted}
use Rattle.hw_model.specs.Rooms.{room_count}
use Rattle.hw_desk.specs.State.{Rose}
use Rattle.hw_cert_lines.specs.declared.line.Line.{Line}
use Rattle.hw_cert_lines.specs.Tolled.{is_plain}
use Rattle.hw_cert_lines.specs.Lines.{last_table, is_closed, ends}
use Rattle.hw_cert_lines.specs.Valid.{LineFits, Valid}
use Rattle.hw_cert_lines.specs.Lemmas.{lemmas_of, IsLean}
use Rattle.hw_cert.specs.Logs.{LogModel, WhereTold, IsWhole, Grows}
use Rattle.hw_search_laws.specs.declared.outcome.Branching.{Branching}
use Rattle.hw_search_laws.specs.Turns.{FailsAt}
use Rattle.hw_cert_crews.specs.Crews.{NewAmong}
use Rattle.hw_turns.specs.Orders.{searcher_count}
use Rattle.hw_turns.specs.declared.outcome.Crewed.{Crewed}
use Rattle.hw_turns.specs.declared.outcome.Crewed.TheVariants.{Optimal, Infeasible, Spent, NoMemory, LogFailed}

-- the answer is Optimal or Infeasible
abbrev pub crew_is_proved : Crewed → Bool
crew_is_proved (Optimal table c) = true
crew_is_proved Infeasible = true
crew_is_proved (Spent table) = false
crew_is_proved (NoMemory table) = false
crew_is_proved LogFailed = false

-- what each answer says of the lines
abbrev pub CrewAnswerTells : Problem → ℕ → Crewed → List Line → Type 0
CrewAnswerTells f budget (Optimal table c) all = (last_table all ≡ Some table) × (cargo f table ≡ Some c)
CrewAnswerTells f budget Infeasible all = last_table all ≡ None
CrewAnswerTells f budget (Spent table) all = (last_table all ≡ table) × (length (lemmas_of all) ≡ budget) × (is_closed all ≡ false)
CrewAnswerTells f budget (NoMemory table) all = last_table all ≡ table
CrewAnswerTells f budget LogFailed all = ⊤

-- Spent, or out of memory, which may come at any time
abbrev pub crew_may_be_spent : Crewed → Bool
crew_may_be_spent (Optimal table c) = false
crew_may_be_spent Infeasible = false
crew_may_be_spent (Spent table) = true
crew_may_be_spent (NoMemory table) = true
crew_may_be_spent LogFailed = false

-- the lines that a crew handed on, which say nothing of tolls or prices, and the answer by them; the log's faults were `before` and are `now`
pub record CrewWrites (f : Problem) (order : List Branching) (budget : ℕ) (answer : Crewed) (before now : ℕ) (all : List Line) : Type 0 where
  pub plain : All (λ line. is_plain line ≡ true) all
  pub fit : All (LineFits f) all
  pub valid : Valid f all
  pub lean : IsLean f all
  pub new : NewAmong f (searcher_count order) all
  pub proved_just : crew_is_proved answer ≡ ends all
  pub tells : CrewAnswerTells f budget answer all
  pub lemmas : length (lemmas_of all) ≤ budget
  pub spent : (Rose before now → ⊥) → length (lemmas_of all) ≡ budget → is_closed all ≡ false → crew_may_be_spent answer ≡ true

-- the timetable of an answer
abbrev pub crewed_timetable : Crewed → Option (List ℕ)
crewed_timetable (Optimal table c) = Some table
crewed_timetable Infeasible = None
crewed_timetable (Spent table) = table
crewed_timetable (NoMemory table) = table
crewed_timetable LogFailed = None

-- a failure has its cause, and leaves a first part of a line that is valid there; else nothing follows the lines
abbrev pub CrewEnds : Problem → LogModel → LogModel → Crewed → Type 0
CrewEnds f old new (Optimal table c) = IsWhole new
CrewEnds f old new Infeasible = IsWhole new
CrewEnds f old new (Spent table) = IsWhole new
CrewEnds f old new (NoMemory table) = IsWhole new
CrewEnds f old new LogFailed = Rose old.faults new.faults × WhereTold new (FailsAt f)

-- the cargo of an answer is that of its timetable
abbrev pub CrewAnswerIsWorth : Problem → Crewed → Type 0
CrewAnswerIsWorth f (Optimal table c) = cargo f table ≡ Some c
CrewAnswerIsWorth f Infeasible = ⊤
CrewAnswerIsWorth f (Spent table) = ⊤
CrewAnswerIsWorth f (NoMemory table) = ⊤
CrewAnswerIsWorth f LogFailed = ⊤

-- what an answer means, also where the lines are untold: Optimal's timetable is a best one, Infeasible says that none is permitted, and Spent comes with no more lemmas than rooms for each searcher
abbrev pub CrewAnswerMeans : Problem → ℕ → ℕ → Crewed → Type 0
CrewAnswerMeans f most budget (Optimal table c) = IsBest f table c
CrewAnswerMeans f most budget Infeasible = NonePermitted f
CrewAnswerMeans f most budget (Spent table) = budget ≤ most * room_count f
CrewAnswerMeans f most budget (NoMemory table) = ⊤
CrewAnswerMeans f most budget LogFailed = ⊤

-- the log's faults are as they were, but where it failed
abbrev pub KeepsFaults : Crewed → LogModel → LogModel → Type 0
KeepsFaults (Optimal table c) old new = new.faults ≡ old.faults
KeepsFaults Infeasible old new = new.faults ≡ old.faults
KeepsFaults (Spent table) old new = new.faults ≡ old.faults
KeepsFaults (NoMemory table) old new = new.faults ≡ old.faults
KeepsFaults LogFailed old new = ⊤

-- what a crew meets. It needs an order that isn't empty, a budget in its limit and a log without lines
pub record CrewMeets (f : Problem) (order : List Branching) (budget : ℕ) (old : LogModel) (answer : Crewed) (new : LogModel) : Type 0 where
  pub later : old.faults ≤ new.faults
  pub writes : Grows old new (λ was now. CrewWrites f order budget answer old.faults new.faults now.lines)
  pub permitted : IfSome (crewed_timetable answer) (Permits f)
  pub worth : CrewAnswerIsWorth f answer
  pub means : CrewAnswerMeans f (searcher_count order) budget answer
  pub ends : CrewEnds f old new answer
  pub kept : KeepsFaults answer old new
