use Rattle.hw_search_laws.proofs.Priced.{true_reason}
use Rattle.hw_search_laws.proofs.laws.prices_true.Goals as goal

pub returns : goal.returns
returns c = true_reason
