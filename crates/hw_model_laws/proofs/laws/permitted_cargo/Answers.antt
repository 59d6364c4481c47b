use Rattle.hw_model_laws.proofs.Permitted.{has_cargo}
use Rattle.hw_model_laws.proofs.laws.permitted_cargo.Goals as goal

pub returns : goal.returns
returns c = has_cargo
