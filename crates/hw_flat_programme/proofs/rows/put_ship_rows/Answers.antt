use Rattle.std.proofs.Common.{◌+◌, ◌-◌, suc, ap, arith, ◌≡◌}
use Rattle.hw_model.specs.declared.shape.Shape.{Shape}
use Rattle.hw_desk.proofs.Written.{puts_on, puts_same, puts_nothing}
use Rattle.hw_flat_programme.specs.Rows.{ship_rows}
use Rattle.hw_flat_programme.specs.Texts.{rows_text}
use Rattle.hw_flat_programme.proofs.rows.put_ship_rows.Goals as goal

pub loop-ship-preserved : goal.loop-ship-preserved
loop-ship-preserved g c =
    let more : c.args.flat.now.ships - c.loop-ship.ship ≡ suc (c.args.flat.now.ships - (c.loop-ship.ship + 1)) = omega (arith, ap (λ (s : Shape). s.ships) c.shape-ship-end.ensures.value, c.loop-ship-test.true) in
    λ end h. c.loop-ship.invariant end (puts_same _ (ap (λ n. rows_text c.args.format c.args.flat.now.slots (ship_rows c.args.flat.now c.loop-ship.ship n)) more) (puts_on c.put_ship_row.ensures h))

pub returns : goal.returns
returns g c =
    let none : c.args.flat.now.ships - c.loop-ship.ship ≡ 0 = omega (arith, ap (λ (s : Shape). s.ships) c.shape-ship-end.ensures.value, c.loop-ship-test.false) in
    c.loop-ship.invariant _ (puts_same _ (ap (λ n. rows_text c.args.format c.args.flat.now.slots (ship_rows c.args.flat.now c.loop-ship.ship n)) none) (puts_nothing _))
