-- A searcher of a crew: its search and its own lines, and what its turn leaves.
use Rattle.std.specs.Prelude.{◌≡◌, ℕ, ◌+◌, ◌<◌, ◌≤◌, false, List, [], Option, Some, IfSome, IsTrue, length, option_and_then, take, slice_get, slice_set, ⊤}
use Rattle.hw_model.specs.Timetables.{cargo, beats}
use Rattle.hw_model.specs.Problem.{Problem}
use Rattle.hw_desk.specs.State.{Rose}
use Rattle.hw_cert_lines.specs.declared.line.Line.{Line}
use Rattle.hw_cert_lines.specs.Lines.{clause_count, is_closed}
use Rattle.hw_cert_lines.specs.Lemmas.{lemmas_of}
use Rattle.hw_trail_laws.specs.Trails.{most_events}
use Rattle.hw_cert.specs.declared.log.LogStop.{LogStop}
use Rattle.hw_cert.specs.declared.log.LogStop.TheVariants as stops
use Rattle.hw_cert.specs.Logs.{LogModel, Grows}
use Rattle.hw_search_laws.specs.declared.outcome.Turn.{Turn}
use Rattle.hw_search_laws.specs.declared.outcome.Turn.TheVariants as turns
use Rattle.hw_search_laws.specs.Searches.{SearchModel, IsSearch, LogFits}
use Rattle.hw_search_laws.specs.Turns.{is_last}
use Rattle.hw_search.specs.Going.{turns_left}
use Rattle.hw_cert_crews.specs.Pages.{Page}
use Rattle.hw_turns.specs.declared.board.Board.{Board}
use Rattle.hw_turns.specs.Crewing.{IsSaid, Crewing, OwnWell, StopSays}

-- a search that isn't over and was never advised by prices, and its own lines, which fit it
pub record Working (f : Problem) (s : SearchModel) (own : List Line) : Type 0 where
  pub same_problem : s.problem ≡ f
  pub kept : IsSearch s
  pub going : s.over ≡ false
  pub unpriced : s.priced ≡ 0
  pub fits : LogFits (record { lines = own; remainder = [] }) s
  pub well : OwnWell f own

-- the own lines, and after them a table that was offered, or nothing
pub record Caught (f : Problem) (s : SearchModel) (own : List Line) (u : SearchModel) (own' : List Line) : Type 0 where
  pub working : Working f u own'
  pub front : take (length own) own' ≡ own
  pub count : clause_count own' ≡ clause_count own
  pub lemmas : u.lemmas ≡ s.lemmas
  pub nearer : (budget : ℕ) → turns_left budget u ≤ turns_left budget s

-- the own lines, and after them those of a turn that wasn't stopped
pub record TurnsOwn (f : Problem) (s : SearchModel) (own : List Line) (turn : Turn) (u : SearchModel) (own' : List Line) : Type 0 where
  pub well : OwnWell f own'
  pub front : take (length own) own' ≡ own
  pub few : clause_count own' ≤ clause_count own + most_events f.ships f.slots + 2
  pub few_lemmas : length (lemmas_of own') ≤ length (lemmas_of own) + 1
  pub closed : is_closed own' ≡ is_last turn
  pub working : is_last turn ≡ false → Working f u own'
  pub nearer : (budget : ℕ) → is_last turn ≡ false → s.lemmas < budget → turns_left budget u < turns_left budget s

-- this holds of a turn on a log in memory, unless memory ran out: such a log never fails
abbrev pub UnlessStopped : Turn → Type 0 → Type 0
UnlessStopped turns.Decided P = P
UnlessStopped turns.Better P = P
UnlessStopped turns.Lemma P = P
UnlessStopped turns.Ended P = P
UnlessStopped turns.NoMemory P = ⊤
UnlessStopped turns.LogFailed P = ⊥

-- the turn wasn't stopped: all that it wrote was handed on
pub record Continues (f : Problem) (closed : Turn) (own : List Line) (numbers : List ℕ) (board : Board) (pages : List Page) (place : ℕ) (new : LogModel) : Type 0 where
  pub all : List Line
  pub crewing : Crewing f (slice_set pages place (record { lines = own; numbers = numbers })) board all
  pub closed_by : is_closed all ≡ is_last closed
  pub said : IsSaid all new

-- it was stopped: what was handed on is well written, and the board tells of it
pub record Halts (f : Problem) (stop : LogStop) (board : Board) (pages : List Page) (new : LogModel) : Type 0 where
  pub all : List Line
  pub left : List Page
  pub as_many : length left ≡ length pages
  pub crewing : Crewing f left board all
  pub opened : is_closed all ≡ false
  pub says : StopSays f stop all new

-- what a turn leaves, by its answer
abbrev pub TurnLeaves : Problem → Turn → List Line → List ℕ → Board → List Page → ℕ → LogModel → Type 0
TurnLeaves f turns.Decided own numbers board pages place new = Continues f turns.Decided own numbers board pages place new
TurnLeaves f turns.Better own numbers board pages place new = Continues f turns.Better own numbers board pages place new
TurnLeaves f turns.Lemma own numbers board pages place new = Continues f turns.Lemma own numbers board pages place new
TurnLeaves f turns.Ended own numbers board pages place new = Continues f turns.Ended own numbers board pages place new
TurnLeaves f turns.NoMemory own numbers board pages place new = Halts f stops.NoMemory board pages new
TurnLeaves f turns.LogFailed own numbers board pages place new = Halts f stops.Failed board pages new

-- before a turn: the searcher's page is the one at a place, no line without literals was handed on, and the log has all
pub record TurnFrom (f : Problem) (own : List Line) (numbers : List ℕ) (board : Board) (pages : List Page) (place : ℕ) (all : List Line) (old : LogModel) : Type 0 where
  pub page : slice_get pages place ≡ Some (record { lines = own; numbers = numbers })
  pub crewing : Crewing f pages board all
  pub opened : is_closed all ≡ false
  pub said : IsSaid all old

-- the log failed only where its faults rose, which else are as they were
abbrev pub TurnCause : Turn → LogModel → LogModel → Type 0
TurnCause turns.Decided old new = new.faults ≡ old.faults
TurnCause turns.Better old new = new.faults ≡ old.faults
TurnCause turns.Lemma old new = new.faults ≡ old.faults
TurnCause turns.Ended old new = new.faults ≡ old.faults
TurnCause turns.NoMemory old new = new.faults ≡ old.faults
TurnCause turns.LogFailed old new = Rose old.faults new.faults × (old.faults ≤ new.faults)

-- what is told was told before
abbrev pub StaysTold : LogModel → LogModel → Type 0
StaysTold old new = Grows old new (λ was now. ⊤)

-- whatever pages there are: from a searcher's page to the one that its turn leaves
abbrev pub TurnsOn : Problem → Page → Board → LogModel → Turn → Page → Board → LogModel → Type 0
TurnsOn f page board old turn page' board' new = (pages : List Page) (place : ℕ) (all : List Line) → TurnFrom f page.lines page.numbers board pages place all old → TurnLeaves f turn page'.lines page'.numbers board' pages place new

-- a turn that isn't the last one brings a search nearer to the budget's lemma
abbrev pub ComesNearer : ℕ → Turn → SearchModel → SearchModel → Type 0
ComesNearer budget turn s u = is_last turn ≡ false → s.lemmas < budget → turns_left budget u < turns_left budget s

-- the timetable's cargo is above that of the other one, or there is no other
abbrev pub CargoIsAbove : Problem → List ℕ → Option (List ℕ) → Type 0
CargoIsAbove f table other = (c : ℕ) × (cargo f table ≡ Some c) × IsTrue (beats c (option_and_then (cargo f) other))

-- the timetable's cargo isn't above that of the other one
abbrev pub NotAbove : Problem → List ℕ → Option (List ℕ) → Type 0
NotAbove f table other = IfSome (cargo f table) (λ c. beats c (option_and_then (cargo f) other) ≡ false)

-- the cargo of the best of all isn't above that of the search's best
abbrev pub KeepsUp : Problem → SearchModel → Option (List ℕ) → Type 0
KeepsUp f s best = IfSome best (λ table. NotAbove f table s.best)
