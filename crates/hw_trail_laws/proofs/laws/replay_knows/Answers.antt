use Rattle.hw_trail_laws.proofs.Steps.{meets_replays, replay_meets}
use Rattle.hw_trail_laws.proofs.laws.replay_knows.Goals as goal

pub returns : goal.returns
returns c = λ room clauses is fits. (replay_meets clauses 0 room is fits, meets_replays clauses 0 room is fits)
