use Rattle.std.proofs.Common.{◌≡◌, ap, arith}
use Rattle.hw_model.specs.Rooms.{low_of, high_of}
use Rattle.hw_model.specs.Refuting.{greatest_value}
use Rattle.hw_rules.proofs.Passes.{sum_step}
use Rattle.hw_rules.proofs.goal.greatest_sum.Goals as goal

pub loop-ship-preserved : goal.loop-ship-preserved
loop-ship-preserved c =
    let ships : c.shape-ship-end.result.ships ≡ c.args.flat.now.ships = ap (λ s. s.ships) c.shape-ship-end.ensures.value in
    record {
      small = omega (arith, c.greatest_of-sum.ensures.small, c.loop-ship.invariant.small);
      told = sum_step (λ ship. greatest_value c.args.flat.now ship (low_of c.args.room.now ship) (high_of c.args.room.now ship)) c.loop-ship.ship c.args.flat.now.ships c.loop-ship.sum c.greatest_of-sum.result _ (omega (arith, c.loop-ship-test.true, ships)) c.greatest_of-sum.ensures.value c.loop-ship.invariant.told;
    }
