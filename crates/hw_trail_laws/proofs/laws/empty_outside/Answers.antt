use Rattle.hw_trail_laws.proofs.Learnt.{contains_in}
use Rattle.hw_trail_laws.proofs.Quiets.{none_within}
use Rattle.hw_trail_laws.proofs.laws.empty_outside.Goals as goal

pub returns : goal.returns
returns c = λ shape old lit sized fits within inside. none_within shape old lit sized fits (contains_in old lit within) inside
