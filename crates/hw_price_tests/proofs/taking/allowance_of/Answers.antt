use Rattle.std.proofs.Common.{◌≤◌, arith}
use Rattle.hw_price_laws.specs.Tolls.{capacity}
use Rattle.hw_price_tests.proofs.Steps.{due_allowed, told_toll}
use Rattle.hw_price_tests.proofs.taking.allowance_of.Goals as goal

pub capacity_of-requires : goal.capacity_of-requires
capacity_of-requires c = record { small = told_toll (λ toll. capacity toll ≤ 2_560) c.args.tolls.now _ c.toll_at.result.now c.requires.small c.toll_at.ensures.value }

pub loop-due-preserved : goal.loop-due-preserved
loop-due-preserved c = record {
  small = omega (arith, c.priced-sum.ensures.small, c.loop-due.invariant.small);
  told = due_allowed c.args.tolls.now c.args.dues.now c.loop-due.due-index c.loop-due.sum c.priced-sum.result c.capacity_of.result _ (record { toll = 0; price = 0 }) c.toll_at.result.now c.loop-due-test.true c.toll_at.ensures.value c.capacity_of.ensures.value c.priced-sum.ensures.value c.loop-due.invariant.told;
}
