use Rattle.std.proofs.Common.{ap, rules, w64}
use Rattle.std.proofs.lemmas.Int.{to_z-of_z}
use mir.Val.{SFits}
use Rattle.hw_desk.proofs.Written.{puts_same}
use Rattle.hw_chart_port.specs.Drafts.{sailing_where}
use Rattle.hw_chart_port.proofs.drafts.put_sailing_where.Goals as goal

pub returns-in-Sails : goal.returns-in-Sails
returns-in-Sails g c =
    let fits : SFits w64 c.full_draft.result = search rules in
    let level = simp to_z-of_z at c.level-level.ensures in
    puts_same _ (ap (sailing_where c.args.chart.now c.args.number c.args.ship.now c.args.window) c.in-Sails.is) (rw (c.by_direction-class.ensures, level, c.full_draft.ensures) at c.put_sailing_mark.ensures)
