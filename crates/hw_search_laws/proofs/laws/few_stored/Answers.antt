use Rattle.hw_search_laws.proofs.Bounds.{few_stored}
use Rattle.hw_search_laws.proofs.laws.few_stored.Goals as goal

pub returns : goal.returns
returns c = few_stored
