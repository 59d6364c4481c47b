use Rattle.std.proofs.Common.{length}
use Rattle.hw_chart_flat.proofs.bars.+put_job_bars.Given as goal

abbrev pub decreases-put_job_bars : goal.decreases-put_job_bars
decreases-put_job_bars g l = length l.jobs.now
