use Rattle.hw_model_laws.proofs.Quiets.{best_quiet}
use Rattle.hw_model_laws.proofs.laws.other_best.Goals as goal

pub returns : goal.returns
returns c = best_quiet
