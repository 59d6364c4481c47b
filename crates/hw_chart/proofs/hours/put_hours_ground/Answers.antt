use Rattle.std.proofs.Common.{◌≡◌, ◌-◌, arith}
use Rattle.hw_chart.proofs.hours.put_hours_ground.Goals as goal

pub returns : goal.returns
returns g c =
    let from_first : c.args.panel.slots - 0 ≡ c.args.panel.slots = omega arith in
    rw (c.tall-tall.ensures, from_first) at c.put_steps.ensures
