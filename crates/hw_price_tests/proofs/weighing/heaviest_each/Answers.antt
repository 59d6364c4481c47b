use Rattle.std.proofs.Common.{subst, sym, All, ◌≤◌}
use Rattle.hw_price_tests.proofs.Steps.{left_small}
use Rattle.hw_price_tests.proofs.weighing.heaviest_each.Goals as goal

pub with_job-requires-clause-small : goal.with_job-requires-clause-small
with_job-requires-clause-small c = subst (All (λ m. m ≤ 2_496)) (sym c.deref.ensures.value) (left_small c.args.weights.now c.args.jobs.now c.loop-left.left c.args.tugs c.loop-left.most.items c.requires.few c.requires.small c.loop-left-test.true c.loop-left.invariant.long c.loop-left.invariant.told)
