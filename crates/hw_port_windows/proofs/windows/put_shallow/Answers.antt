use Rattle.std.proofs.Common.{rules, w64, ◌≡◌}
use Rattle.std.proofs.lemmas.Int.{to_z-of_z}
use mir.Val.{SFits}
use Rattle.hw_port_windows.proofs.windows.put_shallow.Goals as goal

pub returns : goal.returns
returns g c =
    let at_most_fits : SFits w64 c.draft-at_most.result = search rules in
    let light_fits : SFits w64 c.behind-asked.inside.light = search rules in
    let light : c.behind-asked.inside.light ≡ c.args.asked.now.ship.light = search rules in
    let line = simp to_z-of_z at c.put_shallow_line.ensures in
    rw (c.limit_name-place.ensures, c.limit.ensures, c.parts.ensures.parts, light, c.draft-at_most.ensures, c.extremes_in-slot.ensures.deep) at line
