use Rattle.hw_chart_laws.proofs.Bands.{flat_arranged}
use Rattle.hw_chart_laws.proofs.laws.flat_parts_lie_apart.Goals as goal

pub returns : goal.returns
returns c = flat_arranged
