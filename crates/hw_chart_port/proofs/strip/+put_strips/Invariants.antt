use Rattle.std.proofs.Common.{length}
use Rattle.hw_chart_port.proofs.strip.+put_strips.Given as goal

abbrev pub decreases-put_strips : goal.decreases-put_strips
decreases-put_strips g l = length l.waypoints.now
