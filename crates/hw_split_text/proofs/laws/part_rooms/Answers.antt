use Rattle.hw_split_text.proofs.Covering.{part_rooms}
use Rattle.hw_split_text.proofs.laws.part_rooms.Goals as goal

pub returns : goal.returns
returns c = part_rooms
