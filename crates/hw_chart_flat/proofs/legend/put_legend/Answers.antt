use Rattle.hw_chart_flat.specs.Legends.{flat_legend}
use Rattle.hw_chart_flat.proofs.legend.put_legend.Goals as goal

pub returns : goal.returns
unfolding flat_legend
returns g c = rw c.legend_begin.ensures.value at c.put_marks.ensures
