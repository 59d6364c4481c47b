-- Where the log's faults stay.
use Rattle.std.proofs.Common.{◌≡◌, ◌∙◌, Option, Some, None, List, ℕ, false, sym, subst}
use Rattle.hw_model.specs.Problem.{Problem}
use Rattle.hw_cert.specs.declared.log.LogStop.{LogStop}
use Rattle.hw_cert.specs.declared.log.LogStop.TheVariants as stops
use Rattle.hw_cert.specs.Logs.{LogModel}
use Rattle.hw_search_laws.specs.declared.outcome.Turn.{Turn}
use Rattle.hw_search_laws.specs.declared.outcome.Turn.TheVariants as turns
use Rattle.hw_search_laws.specs.declared.outcome.Solved.{Solved}
use Rattle.hw_search_laws.specs.Proving.{IsEndOf}
use Rattle.hw_search_laws.specs.Turns.{is_last}
use Rattle.hw_search_ledger.specs.Handing.{StopCause}
use Rattle.hw_search.specs.Turning.{turn_of}
use Rattle.hw_search.specs.Faults.{TurnKeepsFaults, SolvedKeepsFaults}

by_stop : (stop : LogStop) (old mid new : LogModel) → mid.faults ≡ old.faults → StopCause stop mid new → TurnKeepsFaults (turn_of stop) old new
by_stop stops.Failed old mid new e cause = tt
by_stop stops.NoMemory old mid new e cause = cause ∙ e

-- a line wasn't taken, after lines that were
pub stop_keeps : (stop : LogStop) (turn : Turn) (old mid new : LogModel) → turn ≡ turn_of stop → mid.faults ≡ old.faults → StopCause stop mid new → TurnKeepsFaults turn old new
stop_keeps stop turn old mid new is e cause = subst (λ t. TurnKeepsFaults t old new) (sym is) (by_stop stop old mid new e cause)

-- a turn that isn't the last
pub going_keeps : (turn : Turn) (old new : LogModel) → is_last turn ≡ false → TurnKeepsFaults turn old new → new.faults ≡ old.faults
going_keeps turns.Decided old new e k = k
going_keeps turns.Better old new e k = k
going_keeps turns.Lemma old new e k = k
going_keeps turns.Ended old new e k = absurd cc
going_keeps turns.NoMemory old new e k = absurd cc
going_keeps turns.LogFailed old new e k = absurd cc

-- a search that ended
pub ended_keeps : (f : Problem) (best : Option (List ℕ)) (answer : Solved) (old new : LogModel) → IsEndOf f best answer → new.faults ≡ old.faults → SolvedKeepsFaults answer old new
ended_keeps f None answer old new e k = subst (λ a. SolvedKeepsFaults a old new) (sym e) k
ended_keeps f (Some table) answer old new e k = subst (λ a. SolvedKeepsFaults a old new) (sym e.1) k
