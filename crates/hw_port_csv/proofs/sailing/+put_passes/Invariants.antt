use Rattle.std.proofs.Common.{length}
use Rattle.hw_port_csv.proofs.sailing.+put_passes.Given as goal

abbrev pub decreases-put_passes : goal.decreases-put_passes
decreases-put_passes g l = length l.waypoints.now
