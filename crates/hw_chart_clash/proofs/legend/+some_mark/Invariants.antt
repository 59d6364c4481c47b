use Rattle.std.proofs.Common.{length}
use Rattle.hw_chart_clash.proofs.legend.+some_mark.Given as goal

abbrev pub decreases-some_mark : goal.decreases-some_mark
decreases-some_mark l = length l.marks.now
