use Rattle.std.proofs.Common.{arith}
use Rattle.hw_price_tests.proofs.holding.exceeded_at_end.Goals as goal

pub returns-clause-none : goal.returns-clause-none
returns-clause-none c = λ e. λ i d lt. c.loop-job.invariant.none i d (omega (arith, lt, c.loop-job-test.false))
