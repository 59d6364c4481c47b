use Rattle.hw_search_laws.proofs.Plainly.{plain_turn}
use Rattle.hw_search_laws.proofs.laws.plain_turn.Goals as goal

pub returns : goal.returns
returns c = plain_turn
