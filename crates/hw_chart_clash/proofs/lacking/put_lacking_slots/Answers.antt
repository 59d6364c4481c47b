use Rattle.std.proofs.Common.{◌≡◌, ◌-◌, arith}
use Rattle.hw_port_model.specs.Numbers.{horizon_of}
use Rattle.hw_chart_clash.proofs.lacking.put_lacking_slots.Goals as goal

pub returns : goal.returns
returns g c =
    let from_first : horizon_of c.args.port.now - 0 ≡ horizon_of c.args.port.now = omega arith in
    rw (c.horizon.ensures.value, c.fleet_tall.ensures, from_first) at c.put_steps.ensures
