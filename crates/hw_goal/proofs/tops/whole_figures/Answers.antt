use Rattle.std.proofs.Common.{◌≡◌, ap, arith}
use Rattle.hw_model.specs.declared.shape.Shape.{Shape}
use Rattle.hw_goal.proofs.Sums.{sum_small}
use Rattle.hw_goal.proofs.tops.whole_figures.Goals as goal

pub overflow_add-figures : goal.overflow_add-figures
overflow_add-figures c =
    let f = c.args.flat.now in
    let ships : c.shape-shape.result.ships ≡ f.ships = ap (λ (s : Shape). s.ships) c.shape-shape.ensures.value in
    omega (arith, sum_small f c.loop-ship.ship c.loop-ship.figures c.loop-ship.invariant.kept (omega (arith, ships, c.loop-ship-test.true, c.shape-shape.ensures.limits.few_ships)), c.peak_of-peak.ensures.small)
