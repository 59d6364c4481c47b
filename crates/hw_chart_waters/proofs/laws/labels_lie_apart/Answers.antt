use Rattle.hw_chart_waters.proofs.Apart.{lie_apart}
use Rattle.hw_chart_waters.proofs.laws.labels_lie_apart.Goals as goal

pub returns : goal.returns
returns c = lie_apart
