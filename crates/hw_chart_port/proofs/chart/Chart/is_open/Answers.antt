use Rattle.std.proofs.Common.{◌∙◌}
use Rattle.hw_chart_port.proofs.Openings.{open_is}
use Rattle.hw_chart_port.proofs.chart.Chart.is_open.Goals as goal

pub returns-in-Some : goal.returns-in-Some
returns-in-Some c = c.is_move.ensures.value ∙ open_is c.args.self.now.port c.args.self.now.tide c.args.self.now.table c.in-Some.plan.now c.args.ship c.args.slot c.in-Some.ensures.table c.in-Some.ensures.moves c.requires.ship_in c.requires.slot_in
