use Rattle.std.proofs.Common.{◌∙◌, arith}
use Rattle.hw_price_laws.specs.Tolls.{IsToll}
use Rattle.hw_price_tests.proofs.Charged.{pays_small}
use Rattle.hw_price_tests.proofs.Steps.{due_left, told_toll}
use Rattle.hw_price_tests.proofs.costs.charge_dues.Goals as goal

pub charge_ships-requires-clause-toll : goal.charge_ships-requires-clause-toll
charge_ships-requires-clause-toll c = told_toll (IsToll c.args.flat.now) c.args.tolls.now _ c.toll_at.result.now c.requires.tolls c.toll_at.ensures.value

pub charge_ships-requires-clause-room : goal.charge_ships-requires-clause-room
charge_ships-requires-clause-room c = λ ship slot.
    omega (
      arith,
      due_left c.args.flat.now c.args.tolls.now c.args.dues.now ship slot c.loop-due.due-index (record { toll = 0; price = 0 }) c.toll_at.result.now c.loop-due-test.true c.toll_at.ensures.value,
      c.loop-due.invariant.told ship slot,
      c.requires.none ship slot,
      pays_small c.args.flat.now c.args.tolls.now c.args.dues.now ship slot c.shape-shape.ensures.limits c.requires.tolls c.requires.fit,
      c.requires.few,
    )

pub loop-due-preserved : goal.loop-due-preserved
loop-due-preserved c = record {
  each_slot = λ ship. c.charge_ships.ensures.charged.each_slot ship ∙ c.loop-due.invariant.each_slot ship;
  told = λ ship slot.
      omega (
        arith,
        due_left c.args.flat.now c.args.tolls.now c.args.dues.now ship slot c.loop-due.due-index (record { toll = 0; price = 0 }) c.toll_at.result.now c.loop-due-test.true c.toll_at.ensures.value,
        c.charge_ships.ensures.charged.paid ship slot,
        c.loop-due.invariant.told ship slot,
      );
}
