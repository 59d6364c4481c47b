use Rattle.std.proofs.Common.{length}
use Rattle.hw_port_csv.proofs.record.+put_no_passes.Given as goal

abbrev pub decreases-put_no_passes : goal.decreases-put_no_passes
decreases-put_no_passes g l = length l.waypoints.now
