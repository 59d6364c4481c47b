use Rattle.hw_search_laws.proofs.Bounds.{few_new}
use Rattle.hw_search_laws.proofs.laws.few_new.Goals as goal

pub returns : goal.returns
returns c = few_new
