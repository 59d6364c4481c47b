use Rattle.std.proofs.Common.{length}
use Rattle.hw_chart_port.proofs.marks.+waits_on.Given as goal

abbrev pub decreases-waits_on : goal.decreases-waits_on
decreases-waits_on l = length l.pairs.now
