use Rattle.std.proofs.Common.{rules, w64}
use Rattle.std.proofs.lemmas.Int.{to_z-of_z}
use mir.Val.{SFits}
use Rattle.hw_desk.proofs.Written.{puts_on, puts_nothing}
use Rattle.hw_chart_port.proofs.drafts.put_drafts.Goals as goal

pub returns : goal.returns
returns g c =
    let fits : SFits w64 c.full_draft.result = search rules in
    let steps = simp to_z-of_z at c.put_sailing_steps.ensures in
    let drafts = rw c.full_draft.ensures at steps in
    puts_on c.put_sailings_begin.ensures (puts_on drafts (puts_on c.put_full_steps.ensures (puts_on c.put_sailing_where.ensures (puts_on c.put_svg_end.ensures (puts_nothing _)))))
