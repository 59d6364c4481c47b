use Rattle.std.proofs.Common.{length}
use Rattle.hw_chart_port.proofs.fleet.+held_by_all.Given as goal

abbrev pub decreases-held_by_all : goal.decreases-held_by_all
decreases-held_by_all l = length l.ships.now
