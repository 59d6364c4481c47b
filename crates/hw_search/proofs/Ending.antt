-- A turn that ended at a conflict without literals.
use Rattle.std.proofs.Common.{◌≡◌, ℕ, List, [], Option, sym, ◌∙◌, subst}
use Rattle.hw_model.specs.Problem.{Problem}
use Rattle.hw_trail_laws.specs.declared.event.Why.{Why}
use Rattle.hw_trail_laws.specs.Trails.{reason_clause}
use Rattle.hw_cert.specs.declared.log.LogStop.{LogStop}
use Rattle.hw_cert.specs.Logs.{LogModel}
use Rattle.hw_search_laws.specs.declared.outcome.Settled.TheVariants.{Conflict}
use Rattle.hw_search_laws.specs.declared.outcome.Turn.{Turn}
use Rattle.hw_search_laws.specs.declared.outcome.Turn.TheVariants as turns
use Rattle.hw_search_laws.specs.Searches.{SearchModel}
use Rattle.hw_search_laws.specs.Settling.{Settles}
use Rattle.hw_search_laws.specs.Turns.{why_lines, TurnMeets}
use Rattle.hw_search_ledger.specs.Handing.{TakesAll, StopsWithin}
use Rattle.hw_search.specs.Turning.{TurnBegins, turn_of, halted}
use Rattle.hw_search.proofs.Answering.{same_mid, end_stops, end_meets}

-- the same turn in the words of a call
pub turned : (s : SearchModel) (old new : LogModel) (turn turn' : Turn) (after after' : SearchModel) → turn' ≡ turn → after' ≡ after → TurnMeets s old turn after new → TurnMeets s old turn' after' new
turned s old new turn turn' after after' e f t = subst (λ x. TurnMeets s old x after' new) (sym e) (subst (λ x. TurnMeets s old turn x new) (sym f) t)

pub ends : (s mid : SearchModel) (why : Why) (f : Problem) (ws : List (Option ℕ)) (n : ℕ) (old new : LogModel) → TurnBegins s old → reason_clause why ≡ [] → Settles s mid (Conflict why) → f ≡ mid.problem → TakesAll (why_lines f why) old new → TurnMeets s old turns.Ended (halted mid ws n) new
ends s mid why f ws n old new b none settles p t = end_meets s mid why ws n old new b settles none (subst (λ g. TakesAll (why_lines g why) old new) (p ∙ (same_mid s mid settles.implies).problem) t)

pub ends_stopped : (s mid : SearchModel) (why : Why) (f : Problem) (ws : List (Option ℕ)) (n : ℕ) (stop : LogStop) (old new : LogModel) → TurnBegins s old → reason_clause why ≡ [] → Settles s mid (Conflict why) → f ≡ mid.problem → StopsWithin stop (why_lines f why) 0 old new → TurnMeets s old (turn_of stop) (halted mid ws n) new
ends_stopped s mid why f ws n stop old new b none settles p t = end_stops s mid why ws n stop old new b settles none (subst (λ g. StopsWithin stop (why_lines g why) 0 old new) (p ∙ (same_mid s mid settles.implies).problem) t)
