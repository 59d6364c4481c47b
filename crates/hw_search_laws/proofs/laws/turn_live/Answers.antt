use Rattle.hw_search_laws.proofs.Living.{turn_lives}
use Rattle.hw_search_laws.proofs.laws.turn_live.Goals as goal

pub returns : goal.returns
returns c = turn_lives
