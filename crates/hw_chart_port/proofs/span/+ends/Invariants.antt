use Rattle.std.proofs.Common.{length}
use Rattle.hw_chart_port.proofs.span.+ends.Given as goal

abbrev pub decreases-ends : goal.decreases-ends
decreases-ends l = length l.ships.now
