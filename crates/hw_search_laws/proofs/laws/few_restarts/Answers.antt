use Rattle.hw_search_laws.proofs.Bounds.{few_restarts}
use Rattle.hw_search_laws.proofs.laws.few_restarts.Goals as goal

pub returns : goal.returns
returns c = few_restarts
