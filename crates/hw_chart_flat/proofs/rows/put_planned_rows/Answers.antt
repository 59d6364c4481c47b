use Rattle.std.proofs.Common.{◌<◌, ◌≤◌, ap, arith}
use Rattle.hw_model.specs.declared.shape.Shape.{Shape}
use Rattle.hw_desk.proofs.Written.{puts_on, puts_same, puts_nothing}
use Rattle.hw_chart_flat.proofs.Onward.{planned_next, planned_end}
use Rattle.hw_chart_flat.proofs.rows.put_planned_rows.Goals as goal

pub loop-ship-preserved : goal.loop-ship-preserved
loop-ship-preserved g c =
    let many = ap (λ (s : Shape). s.ships) c.shape-ship-end.ensures.value in
    let more : c.loop-ship.ship < c.args.flat.now.ships = omega (arith, many, c.loop-ship-test.true) in
    let row = rw c.table.ensures.value at c.planned_row.ensures.value in
    λ end h. c.loop-ship.invariant end (puts_same _ (planned_next c.args.flat.now c.args.plan.now.table c.loop-ship.ship c.args.flat.now.ships more) (puts_on (rw row at c.put_planned_row.ensures) h))

pub returns : goal.returns
returns g c =
    let many = ap (λ (s : Shape). s.ships) c.shape-ship-end.ensures.value in
    let none : c.args.flat.now.ships ≤ c.loop-ship.ship = omega (arith, many, c.loop-ship-test.false) in
    c.loop-ship.invariant _ (puts_same _ (planned_end c.args.flat.now c.args.plan.now.table c.loop-ship.ship c.args.flat.now.ships none) (puts_nothing _))
