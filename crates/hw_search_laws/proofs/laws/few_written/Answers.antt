use Rattle.hw_search_laws.proofs.Bounds.{few_reasons}
use Rattle.hw_search_laws.proofs.laws.few_written.Goals as goal

pub returns : goal.returns
returns c = few_reasons
