use Rattle.std.proofs.Common.{length}
use Rattle.hw_chart_flat.proofs.Fits.{jobs_fit}
use Rattle.hw_chart_flat.proofs.marks.+some_hold_tugs.Goals as goal

pub some_job_is_done-requires : goal.some_job_is_done-requires
some_job_is_done-requires t c =
    let ships = length c.args.table.now in
    rw (c.as_slice.ensures.value, c.rule_jobs.ensures.value) (jobs_fit ships c.in-Some.found.rule.now (c.in-Some.ensures.rule ships c.requires))
