use Rattle.std.proofs.Common.{length}
use Rattle.hw_chart_flat.proofs.marks.+some_job_is_done.Given as goal

abbrev pub decreases-some_job_is_done : goal.decreases-some_job_is_done
decreases-some_job_is_done l = length l.jobs.now
