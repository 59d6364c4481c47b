use Rattle.hw_model_laws.proofs.Sums.{goal_changed}
use Rattle.hw_model_laws.proofs.laws.goal_changed.Goals as goal

pub returns : goal.returns
returns c = goal_changed
