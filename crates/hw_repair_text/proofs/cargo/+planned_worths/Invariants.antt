use Rattle.std.proofs.Common.{length}
use Rattle.hw_repair_text.proofs.cargo.+planned_worths.Given as goal

abbrev pub decreases-planned_worths : goal.decreases-planned_worths
decreases-planned_worths l = length l.wishes.now
