use Rattle.std.proofs.Common.{arith}
use Rattle.hw_price_tests.proofs.Ends.{no_step}
use Rattle.hw_price_tests.proofs.holding.exceeded_at_step.Goals as goal

pub returns : goal.returns
returns c = record {
  value = (
    λ t. absurd cc,
    λ s. absurd (no_step c.args.flat.now c.args.room.now c.args.later.now c.args.jobs.now (λ k d i e lt inside. c.loop-job.invariant k d i e (omega (arith, lt, c.loop-job-test.false)) inside) s),
  );
}
