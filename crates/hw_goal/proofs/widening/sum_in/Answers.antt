use Rattle.std.proofs.Common.{◌≡◌, ap, arith}
use Rattle.hw_model.specs.declared.shape.Shape.{Shape}
use Rattle.hw_model.specs.Rooms.{low_of, high_of}
use Rattle.hw_model.specs.Refuting.{greatest_value}
use Rattle.hw_rules.proofs.Passes.{sum_step}
use Rattle.hw_goal.proofs.widening.sum_in.Goals as goal

pub loop-ship-preserved : goal.loop-ship-preserved
loop-ship-preserved c =
    let f = c.args.flat.now in
    let ships : c.shape-ship-end.result.ships ≡ f.ships = ap (λ (s : Shape). s.ships) c.shape-ship-end.ensures.value in
    record {
      small = omega (arith, c.current-sum.ensures.small, c.loop-ship.invariant.small);
      told = sum_step (λ ship. greatest_value f ship (low_of c.args.room.now ship) (high_of c.args.room.now ship)) c.loop-ship.ship f.ships c.loop-ship.sum c.current-sum.result _ (omega (arith, c.loop-ship-test.true, ships)) c.current-sum.ensures.value c.loop-ship.invariant.told;
    }
