use Rattle.std.proofs.Common.{length}
use Rattle.hw_chart_port.proofs.stays.+put_stays.Given as goal

abbrev pub decreases-put_stays : goal.decreases-put_stays
decreases-put_stays g l = length l.pairs.now
