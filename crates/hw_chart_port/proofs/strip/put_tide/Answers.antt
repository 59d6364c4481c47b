use Rattle.std.proofs.Common.{rules, w32, ◌≡◌, ◌-◌, arith}
use Rattle.std.proofs.lemmas.Int.{to_z-of_z}
use mir.Val.{SFits}
use Rattle.hw_chart_port.proofs.strip.put_tide.Goals as goal

pub returns : goal.returns
returns g c =
    let fits : SFits w32 c.args.strip.high = search rules in
    let from_first : c.args.slots - 0 ≡ c.args.slots = omega arith in
    let steps = simp to_z-of_z at c.put_steps.ensures in
    rw (from_first, c.tall.ensures) at steps
