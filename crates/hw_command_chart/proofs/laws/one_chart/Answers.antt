use Rattle.hw_command_chart.proofs.Decided.{one_chart_law}
use Rattle.hw_command_chart.proofs.laws.one_chart.Goals as goal

pub returns : goal.returns
returns c = one_chart_law
