use Rattle.hw_model_laws.proofs.Sums.{greatest_of_one}
use Rattle.hw_model_laws.proofs.laws.greatest_of_one.Goals as goal

pub returns : goal.returns
returns c = greatest_of_one
