use Rattle.std.proofs.Common.{◌<◌, arith}
use Rattle.hw_desk.proofs.Written.{puts_on, puts_nothing}
use Rattle.hw_model_laws.proofs.Horizon.{horizon_le}
use Rattle.hw_chart_flat.specs.Rows.{planned_row_text}
use Rattle.hw_chart_flat.proofs.Tested.{same_open}
use Rattle.hw_chart_flat.proofs.rows.put_planned_row.Goals as goal

pub invariant_of-openings-clause-flagged : goal.invariant_of-openings-clause-flagged
invariant_of-openings-clause-flagged g c = λ slot lt.
    let plan = c.args.plan.now in
    let within : slot < c.args.flat.now.slots = omega (arith, lt, horizon_le c.args.flat.now) in
    same_open c.args.flat.now plan.table c.args.row.ship slot _ c.requires.planned.listed within (c.requires.planned.flagged c.args.row.ship slot c.requires.ship_in lt)

pub returns : goal.returns
unfolding planned_row_text
returns g c =
    let moves = rw (c.row_y.ensures.value, c.horizon.ensures.value) at c.put_moves_window.ensures in
    let parts = rw c.table.ensures.value at c.put_course_parts.ensures in
    puts_on c.put_row_begin.ensures (puts_on moves (puts_on parts (puts_on c.put_group_end.ensures (puts_nothing _))))
