use Rattle.std.proofs.Common.{ap, ◌∙◌, ◌+◌, cond, get_or}
use Rattle.hw_price_tests.proofs.Charged.{whole_span}
use Rattle.hw_price_tests.proofs.charging.add.Goals as goal

pub returns : goal.returns
returns c = record {
  value = λ k. c.loop-k.invariant.told k ∙ ap (λ b. get_or c.args.costs.now k 0 + cond b c.args.amount 0) (whole_span c.args.from c.args.to c.loop-k.k k c.loop-k.auto.k c.loop-k.invariant.upto c.loop-k-test.false);
}
