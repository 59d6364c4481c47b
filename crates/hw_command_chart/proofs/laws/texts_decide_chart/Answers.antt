use Rattle.hw_command_chart.proofs.Decided.{texts_decide_law}
use Rattle.hw_command_chart.proofs.laws.texts_decide_chart.Goals as goal

pub returns : goal.returns
returns c = texts_decide_law
