use Rattle.hw_chart_port.proofs.Bounds.{draft_least, draft_most}
use Rattle.hw_chart_port.proofs.chart.Chart.sailing.Goals as goal

pub returns-clause-least : goal.returns-clause-least
returns-clause-least c = draft_least _ _ c.args.ship c.args.slot (rw c.parts-kept.ensures.parts at c.parts-kept.ensures.kept) _ c.sailing.ensures

pub returns-clause-most : goal.returns-clause-most
returns-clause-most c = draft_most _ _ c.args.ship c.args.slot (rw c.parts-kept.ensures.parts at c.parts-kept.ensures.kept) _ c.sailing.ensures
