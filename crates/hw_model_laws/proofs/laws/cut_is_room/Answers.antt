use Rattle.hw_model_laws.proofs.Bounds.{cut_room_is, cut_sets}
use Rattle.hw_model_laws.proofs.laws.cut_is_room.Goals as goal

pub returns : goal.returns
returns c = λ room lit is fits free. (cut_room_is room lit is fits free, cut_sets room lit free)
