use Rattle.std.proofs.Common.{length}
use Rattle.hw_port_csv.proofs.passes.+offset_at.Given as goal

abbrev pub decreases-offset_at : goal.decreases-offset_at
decreases-offset_at l = length l.route.now
