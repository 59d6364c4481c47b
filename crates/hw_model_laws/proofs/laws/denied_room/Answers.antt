use Rattle.hw_model_laws.proofs.Denials.{denied_law}
use Rattle.hw_model_laws.proofs.laws.denied_room.Goals as goal

pub returns : goal.returns
returns c = denied_law
