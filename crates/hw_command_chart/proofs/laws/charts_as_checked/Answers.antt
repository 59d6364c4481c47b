use Rattle.hw_command_chart.proofs.Verified.{charts_as_checked_law}
use Rattle.hw_command_chart.proofs.laws.charts_as_checked.Goals as goal

pub returns : goal.returns
returns c = charts_as_checked_law
