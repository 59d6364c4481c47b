use Rattle.std.proofs.Common.{rules, w64}
use Rattle.std.proofs.lemmas.Int.{to_z-of_z}
use mir.Val.{SFits}
use Rattle.hw_port_windows.proofs.windows.put_sails.Goals as goal

pub returns : goal.returns
returns g c =
    let least_fits : SFits w64 c.draft-least.result = search rules in
    let greatest_fits : SFits w64 c.draft-greatest.result = search rules in
    let full = simp to_z-of_z at c.is_full-full.ensures in
    let line = simp to_z-of_z at c.put_sails_line.ensures in
    rw (c.slot_minutes-minutes.ensures, full, c.draft-least.ensures, c.draft-greatest.ensures, c.extremes_in-slots.ensures.light, c.extremes_in-slots.ensures.deep) at line
