use Rattle.hw_model_laws.proofs.Truths.{true_inside, false_inside}
use Rattle.hw_model_laws.proofs.laws.truth_in_room.Goals as goal

pub returns : goal.returns
returns c = λ room table lit fits inside. (true_inside room table lit fits inside, false_inside room table lit fits inside)
