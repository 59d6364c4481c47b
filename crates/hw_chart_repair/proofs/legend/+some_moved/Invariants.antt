use Rattle.std.proofs.Common.{length}
use Rattle.hw_chart_repair.proofs.legend.+some_moved.Given as goal

abbrev pub decreases-some_moved : goal.decreases-some_moved
decreases-some_moved l = length l.wishes.now
