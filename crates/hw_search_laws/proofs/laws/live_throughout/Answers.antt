use Rattle.hw_search_laws.proofs.Living.{none_live, throughout}
use Rattle.hw_search_laws.proofs.laws.live_throughout.Goals as goal

pub returns : goal.returns
returns c = λ f. (none_live f, throughout f)
