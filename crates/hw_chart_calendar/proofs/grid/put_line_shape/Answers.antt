use Rattle.hw_desk.proofs.Written.{puts_on, puts_nothing}
use Rattle.hw_chart_calendar.proofs.grid.put_line_shape.Goals as goal

pub returns : goal.returns
returns g c = puts_on c.put_shape_begin.ensures (puts_on c.put_all_lines.ensures (puts_on c.put.ensures.puts (puts_nothing _)))
