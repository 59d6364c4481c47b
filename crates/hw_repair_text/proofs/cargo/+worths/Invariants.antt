use Rattle.std.proofs.Common.{length}
use Rattle.hw_repair_text.proofs.cargo.+worths.Given as goal

abbrev pub decreases-worths : goal.decreases-worths
decreases-worths l = length l.slots.now
