use Rattle.hw_chart_port.specs.Legends.{port_legend}
use Rattle.hw_chart_port.proofs.legend.put_port_legend.Goals as goal

pub returns : goal.returns
unfolding port_legend
returns g c = rw c.legend_begin.ensures.value at c.put_marks.ensures
