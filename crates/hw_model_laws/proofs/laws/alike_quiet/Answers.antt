use Rattle.hw_model_laws.proofs.Quiets.{alike_quiets}
use Rattle.hw_model_laws.proofs.laws.alike_quiet.Goals as goal

pub returns : goal.returns
returns c = alike_quiets
