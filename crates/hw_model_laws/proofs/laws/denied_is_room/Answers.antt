use Rattle.hw_model_laws.proofs.Denying.{denied_is}
use Rattle.hw_model_laws.proofs.laws.denied_is_room.Goals as goal

pub returns : goal.returns
returns c = denied_is
