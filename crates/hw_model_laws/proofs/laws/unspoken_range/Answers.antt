use Rattle.hw_model_laws.proofs.Unspoken.{unspoken}
use Rattle.hw_model_laws.proofs.laws.unspoken_range.Goals as goal

pub returns : goal.returns
returns c = unspoken
