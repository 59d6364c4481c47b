use Rattle.hw_search_laws.proofs.Bounds.{few_numbers}
use Rattle.hw_search_laws.proofs.laws.few_numbers.Goals as goal

pub returns : goal.returns
returns c = few_numbers
