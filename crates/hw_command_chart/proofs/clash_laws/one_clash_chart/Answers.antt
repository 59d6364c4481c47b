use Rattle.hw_command_chart.proofs.ClashDecided.{one_clash_chart_law}
use Rattle.hw_command_chart.proofs.clash_laws.one_clash_chart.Goals as goal

pub returns : goal.returns
returns c = one_clash_chart_law
