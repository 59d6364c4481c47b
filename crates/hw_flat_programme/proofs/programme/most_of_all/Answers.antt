use Rattle.std.proofs.Common.{◌≡◌, ◌+◌, ◌-◌, suc, ap, arith}
use Rattle.hw_model.specs.declared.shape.Shape.{Shape}
use Rattle.hw_flat_programme.specs.Rows.{most, most_from}
use Rattle.hw_flat_programme.proofs.programme.most_of_all.Goals as goal

pub loop-ship-preserved : goal.loop-ship-preserved
loop-ship-preserved c =
    let more : c.args.flat.now.ships - c.loop-ship.ship ≡ suc (c.args.flat.now.ships - (c.loop-ship.ship + 1)) = omega (arith, ap (λ (s : Shape). s.ships) c.shape-ship-end.ensures.value, c.loop-ship-test.true) in
    let next : most_from c.args.flat.now c.loop-ship.ship (c.args.flat.now.ships - c.loop-ship.ship) ≡ most c.args.flat.now c.loop-ship.ship + most_from c.args.flat.now (c.loop-ship.ship + 1) (c.args.flat.now.ships - (c.loop-ship.ship + 1)) = ap (most_from c.args.flat.now c.loop-ship.ship) more in
    (omega (arith, next, c.most-sum.ensures.value, c.loop-ship.invariant.0), omega (arith, c.loop-ship.invariant.1, c.most-sum.ensures.small))

pub returns : goal.returns
returns c =
    let none : c.args.flat.now.ships - c.loop-ship.ship ≡ 0 = omega (arith, ap (λ (s : Shape). s.ships) c.shape-ship-end.ensures.value, c.loop-ship-test.false) in
    let end : most_from c.args.flat.now c.loop-ship.ship (c.args.flat.now.ships - c.loop-ship.ship) ≡ 0 = ap (most_from c.args.flat.now c.loop-ship.ship) none in
    omega (arith, end, c.loop-ship.invariant.0)
