use Rattle.std.proofs.Common.{length}
use Rattle.hw_repair_text.proofs.telling.+put_changes.Given as goal

abbrev pub decreases-put_changes : goal.decreases-put_changes
decreases-put_changes g l = length l.wishes.now
