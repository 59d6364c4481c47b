use Rattle.std.proofs.Common.{length}
use Rattle.hw_chart_port.proofs.passing.+put_passes.Given as goal

abbrev pub decreases-put_passes : goal.decreases-put_passes
decreases-put_passes g l = length l.route.now
