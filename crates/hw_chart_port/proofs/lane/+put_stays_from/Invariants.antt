use Rattle.std.proofs.Common.{length}
use Rattle.hw_chart_port.proofs.lane.+put_stays_from.Given as goal

abbrev pub decreases-put_stays_from : goal.decreases-put_stays_from
decreases-put_stays_from g l = length l.ships.now
