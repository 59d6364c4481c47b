use Rattle.hw_model_laws.proofs.Permitted.{sound_cargo}
use Rattle.hw_model_laws.proofs.laws.sound_refutation.Goals as goal

pub returns : goal.returns
returns c = sound_cargo
