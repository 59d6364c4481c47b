use Rattle.hw_flat.specs.Demonstration.{job_drawn}
use Rattle.hw_flat.proofs.Drawing.{more_drawn}
use Rattle.hw_flat.proofs.demo.draw_jobs.Goals as goal

pub loop-ship-preserved : goal.loop-ship-preserved
loop-ship-preserved c = more_drawn (job_drawn) c.loop-ship.jobs.items _ c.loop-ship.words _ _ c.loop-ship.ship c.args.ships c.loop-ship-test.true c.in_ok-put_job.ensures c.loop-ship.invariant
