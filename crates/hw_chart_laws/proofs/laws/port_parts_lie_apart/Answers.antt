use Rattle.hw_chart_laws.proofs.Bands.{port_arranged}
use Rattle.hw_chart_laws.proofs.laws.port_parts_lie_apart.Goals as goal

pub returns : goal.returns
returns c = port_arranged
