use Rattle.hw_price_tests.proofs.Ends.{told_by_steps, without_steps}
use Rattle.hw_price_tests.proofs.holding.exceeded.Goals as goal

pub returns-then-not-is_empty : goal.returns-then-not-is_empty
returns-then-not-is_empty c = record {
  value = told_by_steps c.args.flat.now c.args.room.now c.args.fleet c.args.later.now c.args.jobs.now c.exceeded_at_step.result c.requires.ascend (c.exceeded_at_end.ensures.none c.if-exceeded_at_end.false) c.exceeded_at_step.ensures.value;
}

pub returns-else-not-is_empty : goal.returns-else-not-is_empty
returns-else-not-is_empty c = record {
  value = (
    λ t. absurd cc,
    λ h. absurd (without_steps c.args.flat.now c.args.room.now c.args.fleet c.args.later.now c.args.jobs.now c.is_empty.result c.requires.ascend c.is_empty.ensures c.if-not-is_empty.false (c.exceeded_at_end.ensures.none c.if-exceeded_at_end.false) h),
  );
}
