use Rattle.hw_model_laws.proofs.Broken.{is_first_broken, first_broken_is}
use Rattle.hw_model_laws.proofs.laws.first_broken_computed.Goals as goal

pub returns : goal.returns
returns c = λ f table n. (is_first_broken f table n, first_broken_is f table n)
