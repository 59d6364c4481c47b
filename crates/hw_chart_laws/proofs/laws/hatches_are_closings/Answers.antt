use Rattle.hw_chart_laws.proofs.Hatched.{hatched_shut, hatched_there}
use Rattle.hw_chart_laws.proofs.laws.hatches_are_closings.Goals as goal

pub returns : goal.returns
returns c = λ shut first end slot low high. (hatched_there shut first end slot low high, hatched_shut shut first end slot)
