use Rattle.hw_model_laws.proofs.Quiets.{unspoken_both}
use Rattle.hw_model_laws.proofs.laws.unspoken_cut.Goals as goal

pub returns : goal.returns
returns c = unspoken_both
