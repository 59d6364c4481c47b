use Rattle.std.proofs.Common.{length}
use Rattle.hw_chart_port.proofs.lane.+put_stretches.Given as goal

abbrev pub decreases-put_stretches : goal.decreases-put_stretches
decreases-put_stretches g l = length l.channel.now
