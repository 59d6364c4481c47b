use Rattle.std.proofs.Common.{length}
use Rattle.hw_chart_flat.proofs.Fits.{jobs_fit}
use Rattle.hw_chart_flat.proofs.span.+fleets_end.Goals as goal

pub jobs_end-end-requires-clause-fit : goal.jobs_end-end-requires-clause-fit
jobs_end-end-requires-clause-fit t c =
    let ships = length c.args.table.now in
    rw (c.as_slice.ensures.value, c.rule_jobs.ensures.value) (jobs_fit ships c.in-Some.found.rule.now (c.in-Some.ensures.rule ships c.requires.fit))
