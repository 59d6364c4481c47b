use Rattle.std.proofs.Common.{length}
use Rattle.hw_chart_port.proofs.bars.+put_clearings.Given as goal

abbrev pub decreases-put_clearings : goal.decreases-put_clearings
decreases-put_clearings g l = length l.pairs.now
