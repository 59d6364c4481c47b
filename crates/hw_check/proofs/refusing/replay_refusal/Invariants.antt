use Rattle.hw_check.proofs.Replayed.{IsReplaying}
use Rattle.hw_check.proofs.refusing.replay_refusal.Given as goal

abbrev pub invariant-loop-id : goal.invariant-loop-id
invariant-loop-id l = IsReplaying l.clauses.live l.hints l.fn.room l.room l.id-index
