use Rattle.std.proofs.Common.{length}
use Rattle.hw_chart_repair.proofs.legend.+some_sailed.Given as goal

abbrev pub decreases-some_sailed : goal.decreases-some_sailed
decreases-some_sailed l = length l.wishes.now
