use Rattle.std.proofs.Common.{length}
use Rattle.hw_chart_port.proofs.signs.+is_some_ship_closed.Given as goal

abbrev pub decreases-is_some_ship_closed : goal.decreases-is_some_ship_closed
decreases-is_some_ship_closed l = length l.ships.now
