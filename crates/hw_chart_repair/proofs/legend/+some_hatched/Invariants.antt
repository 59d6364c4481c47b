use Rattle.std.proofs.Common.{length}
use Rattle.hw_chart_repair.proofs.legend.+some_hatched.Given as goal

abbrev pub decreases-some_hatched : goal.decreases-some_hatched
decreases-some_hatched l = length l.wishes.now
