use Rattle.hw_command_chart.proofs.Verified.{charts_as_verified_law}
use Rattle.hw_command_chart.proofs.laws.charts_as_verified.Goals as goal

pub returns : goal.returns
returns c = charts_as_verified_law
