use Rattle.std.proofs.Common.{◌<◌, ◌≤◌, ap, arith}
use Rattle.hw_model.specs.declared.shape.Shape.{Shape}
use Rattle.hw_desk.proofs.Written.{puts_on, puts_same, puts_nothing}
use Rattle.hw_chart_flat.proofs.Onward.{unplanned_next, unplanned_end}
use Rattle.hw_chart_flat.proofs.rows.put_unplanned_rows.Goals as goal

pub loop-ship-preserved : goal.loop-ship-preserved
loop-ship-preserved g c =
    let many = ap (λ (s : Shape). s.ships) c.shape-ship-end.ensures.value in
    let more : c.loop-ship.ship < c.args.flat.now.ships = omega (arith, many, c.loop-ship-test.true) in
    λ end h. c.loop-ship.invariant end (puts_same _ (unplanned_next c.args.flat.now c.loop-ship.ship c.args.flat.now.ships more) (puts_on c.put_unplanned_row.ensures h))

pub returns : goal.returns
returns g c =
    let many = ap (λ (s : Shape). s.ships) c.shape-ship-end.ensures.value in
    let none : c.args.flat.now.ships ≤ c.loop-ship.ship = omega (arith, many, c.loop-ship-test.false) in
    c.loop-ship.invariant _ (puts_same _ (unplanned_end c.args.flat.now c.loop-ship.ship c.args.flat.now.ships none) (puts_nothing _))
