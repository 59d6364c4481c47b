use Rattle.hw_chart_waters.proofs.Apart.{lie_on_plot}
use Rattle.hw_chart_waters.proofs.laws.labels_lie_on_plot.Goals as goal

pub returns : goal.returns
returns c = lie_on_plot
