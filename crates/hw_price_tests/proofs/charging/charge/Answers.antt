use Rattle.std.proofs.Common.{arith, get_or}
use Rattle.hw_price_laws.specs.Tolls.{IsToll}
use Rattle.hw_price_tests.proofs.Charged.{due_charged}
use Rattle.hw_price_tests.proofs.Steps.{told_toll}
use Rattle.hw_price_tests.proofs.charging.charge.Goals as goal

pub charge_toll-requires-clause-toll : goal.charge_toll-requires-clause-toll
charge_toll-requires-clause-toll c = told_toll (IsToll c.args.flat.now) c.args.tolls.now _ c.toll_at.result.now c.requires.tolls c.toll_at.ensures.value

pub loop-due-preserved : goal.loop-due-preserved
loop-due-preserved c =
    record {
      small = λ k.
          let step = due_charged c.args.flat.now c.args.tolls.now c.args.dues.now c.args.range.ship c.args.range.low c.args.range.high c.loop-due.due-index k (get_or c.loop-due.costs k 0) (get_or c.charge_toll.new.costs k 0) _ (record { toll = 0; price = 0 }) c.toll_at.result.now c.shape-shape.ensures.limits c.requires.tolls c.requires.fit c.loop-due-test.true c.toll_at.ensures.value (c.charge_toll.ensures.value k) (c.loop-due.invariant.told k) in
          omega (arith, step.0, c.loop-due.invariant.small k);
      told = λ k.
          let step = due_charged c.args.flat.now c.args.tolls.now c.args.dues.now c.args.range.ship c.args.range.low c.args.range.high c.loop-due.due-index k (get_or c.loop-due.costs k 0) (get_or c.charge_toll.new.costs k 0) _ (record { toll = 0; price = 0 }) c.toll_at.result.now c.shape-shape.ensures.limits c.requires.tolls c.requires.fit c.loop-due-test.true c.toll_at.ensures.value (c.charge_toll.ensures.value k) (c.loop-due.invariant.told k) in
          step.1;
    }
