use Rattle.hw_model_laws.proofs.Rises.{rising}
use Rattle.hw_model_laws.proofs.laws.rising_best.Goals as goal

pub returns : goal.returns
returns c = rising
