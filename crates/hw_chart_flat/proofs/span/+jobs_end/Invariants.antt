use Rattle.std.proofs.Common.{length}
use Rattle.hw_chart_flat.proofs.span.+jobs_end.Given as goal

abbrev pub decreases-jobs_end : goal.decreases-jobs_end
decreases-jobs_end l = length l.jobs.now
