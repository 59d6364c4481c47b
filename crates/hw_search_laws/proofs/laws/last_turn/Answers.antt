use Rattle.hw_search_laws.proofs.Turned.{last}
use Rattle.hw_search_laws.proofs.laws.last_turn.Goals as goal

pub returns : goal.returns
returns c = last
