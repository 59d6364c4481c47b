use Rattle.std.proofs.Common.{ap, sym}
use Rattle.hw_desk.proofs.Written.{puts_same}
use Rattle.hw_chart_port.specs.Fleets.{fleet_panel}
use Rattle.hw_chart_port.proofs.fleet.put_fleet.Goals as goal

pub returns-in-Some : goal.returns-in-Some
returns-in-Some g c = puts_same _ (ap (fleet_panel c.args.chart.now) (sym c.in-Some.ensures)) (rw c.panel.ensures at c.put_planned_panel.ensures)
