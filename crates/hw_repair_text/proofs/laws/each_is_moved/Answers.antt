use Rattle.hw_repair_text.proofs.Told.{each_is_moved_law}
use Rattle.hw_repair_text.proofs.laws.each_is_moved.Goals as goal

pub returns : goal.returns
returns c = each_is_moved_law
