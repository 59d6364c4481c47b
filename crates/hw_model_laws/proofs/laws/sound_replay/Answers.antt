use Rattle.hw_model_laws.proofs.Cuts.{full_room}
use Rattle.hw_model_laws.proofs.Replayed.{no_conflict_inside}
use Rattle.hw_model_laws.proofs.laws.sound_replay.Goals as goal

pub returns : goal.returns
returns c = λ room clauses table is fits ends h all. no_conflict_inside table clauses room 0 (full_room room is) fits h all ends
