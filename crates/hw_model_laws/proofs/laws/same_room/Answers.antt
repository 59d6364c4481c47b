use Rattle.hw_model_laws.proofs.Same.{same_room}
use Rattle.hw_model_laws.proofs.laws.same_room.Goals as goal

pub returns : goal.returns
returns c = same_room
