use Rattle.hw_model_laws.proofs.Sums.{tugs_changed}
use Rattle.hw_model_laws.proofs.laws.tugs_changed.Goals as goal

pub returns : goal.returns
returns c = tugs_changed
