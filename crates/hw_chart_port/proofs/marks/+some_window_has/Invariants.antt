use Rattle.std.proofs.Common.{length}
use Rattle.hw_chart_port.proofs.marks.+some_window_has.Given as goal

abbrev pub decreases-some_window_has : goal.decreases-some_window_has
decreases-some_window_has l = length l.ships.now
