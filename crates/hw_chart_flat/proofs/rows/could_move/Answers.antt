use Rattle.std.proofs.Common.{◌<◌, arith}
use Rattle.hw_model_laws.proofs.Horizon.{horizon_le}
use Rattle.hw_chart_flat.proofs.Tested.{same_open}
use Rattle.hw_chart_flat.proofs.rows.could_move.Goals as goal

pub invariant_of-openings-clause-flagged : goal.invariant_of-openings-clause-flagged
invariant_of-openings-clause-flagged c = λ slot lt.
    let plan = c.args.plan.now in
    let within : slot < c.args.flat.now.slots = omega (arith, lt, horizon_le c.args.flat.now) in
    same_open c.args.flat.now plan.table c.args.ship slot _ c.requires.planned.listed within (c.requires.planned.flagged c.args.ship slot c.requires.ship_in lt)
