use Rattle.hw_search_sources.proofs.Adding.{next_job}
use Rattle.hw_search_sources.proofs.speakers.Speakers.add_jobs.Goals as goal

pub loop-job-preserved : goal.loop-job-preserved
loop-job-preserved c = next_job c.args.place c.loop-job.job-index c.args.jobs.now _ c.args.self.now c.loop-job.self c.add_ship.new.self c.loop-job-test.true c.requires.ascends c.loop-job.invariant c.in_ok-add_ship.ensures.adds
