use Rattle.std.proofs.Common.{length}
use Rattle.hw_chart_port.proofs.marks.+awaits_ship.Given as goal

abbrev pub decreases-awaits_ship : goal.decreases-awaits_ship
decreases-awaits_ship l = length l.pairs.now
