use Rattle.hw_search_laws.proofs.Turned.{lemma_meets}
use Rattle.hw_search_laws.proofs.laws.lemma_turn.Goals as goal

pub returns : goal.returns
returns c = lemma_meets
