use Rattle.std.proofs.Common.{length}
use Rattle.hw_chart_port.proofs.marks.+some_sailing_has.Given as goal

abbrev pub decreases-some_sailing_has : goal.decreases-some_sailing_has
decreases-some_sailing_has l = length l.ships.now
