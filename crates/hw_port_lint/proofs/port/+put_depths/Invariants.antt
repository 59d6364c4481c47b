use Rattle.std.proofs.Common.{length}
use Rattle.hw_port_lint.proofs.port.+put_depths.Given as goal

abbrev pub decreases-put_depths : goal.decreases-put_depths
decreases-put_depths l = length l.waypoints.now
