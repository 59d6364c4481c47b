-- A log's faults stay as they were, unless the log failed.
use Rattle.std.specs.Prelude.{◌≡◌, ⊤}
use Rattle.hw_cert.specs.Logs.{LogModel}
use Rattle.hw_search_laws.specs.declared.outcome.Turn.{Turn}
use Rattle.hw_search_laws.specs.declared.outcome.Turn.TheVariants.{Decided, Better, Lemma, Ended}
use Rattle.hw_search_laws.specs.declared.outcome.Turn.TheVariants as turns
use Rattle.hw_search_laws.specs.declared.outcome.Solved.{Solved}
use Rattle.hw_search_laws.specs.declared.outcome.Solved.TheVariants.{Optimal, Infeasible, Unfinished}
use Rattle.hw_search_laws.specs.declared.outcome.Solved.TheVariants as answers

-- a turn had no fault of the log, unless it says that the log failed
abbrev pub TurnKeepsFaults : Turn → LogModel → LogModel → Type 0
TurnKeepsFaults Decided old new = new.faults ≡ old.faults
TurnKeepsFaults Better old new = new.faults ≡ old.faults
TurnKeepsFaults Lemma old new = new.faults ≡ old.faults
TurnKeepsFaults Ended old new = new.faults ≡ old.faults
TurnKeepsFaults turns.NoMemory old new = new.faults ≡ old.faults
TurnKeepsFaults turns.LogFailed old new = ⊤

-- a solution had no fault of the log, unless it says that the log failed
abbrev pub SolvedKeepsFaults : Solved → LogModel → LogModel → Type 0
SolvedKeepsFaults (Optimal table c) old new = new.faults ≡ old.faults
SolvedKeepsFaults Infeasible old new = new.faults ≡ old.faults
SolvedKeepsFaults (Unfinished table) old new = new.faults ≡ old.faults
SolvedKeepsFaults (answers.NoMemory table) old new = new.faults ≡ old.faults
SolvedKeepsFaults answers.LogFailed old new = ⊤
