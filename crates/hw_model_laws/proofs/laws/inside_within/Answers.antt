use Rattle.hw_model_laws.proofs.Within.{inside_outer}
use Rattle.hw_model_laws.proofs.laws.inside_within.Goals as goal

pub returns : goal.returns
returns c = inside_outer
