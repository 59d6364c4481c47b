use Rattle.hw_trail_laws.proofs.Truth.{known_true, true_known, known_false, false_known}
use Rattle.hw_trail_laws.proofs.laws.knows_truth.Goals as goal

pub returns : goal.returns
returns c = λ room lit is fits. ((known_true room lit, true_known room lit fits), (known_false room is lit, false_known room lit fits))
