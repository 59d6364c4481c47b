use Rattle.hw_model_laws.proofs.Cuts.{into_cut, out_of_cut, no_order_set, full_room}
use Rattle.hw_model_laws.proofs.laws.cut_room.Goals as goal

pub returns : goal.returns
returns c = λ room table lit is fits free. (out_of_cut room table lit (full_room room is) fits (no_order_set room lit free), λ h. into_cut room table lit (full_room room is) fits h.0 h.1)
