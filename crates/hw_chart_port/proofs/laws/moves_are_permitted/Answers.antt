use Rattle.hw_chart_port.proofs.Openings.{moves_permitted}
use Rattle.hw_chart_port.proofs.laws.moves_are_permitted.Goals as goal

pub returns : goal.returns
returns c = moves_permitted
