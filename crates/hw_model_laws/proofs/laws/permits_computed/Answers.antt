use Rattle.hw_model_laws.proofs.Broken.{permits_from, from_permits}
use Rattle.hw_model_laws.proofs.laws.permits_computed.Goals as goal

pub returns : goal.returns
returns c = λ f table listed. (permits_from f table listed, from_permits f table)
