use Rattle.hw_desk.proofs.Written.{puts_on, puts_nothing}
use Rattle.hw_chart_calendar.proofs.grid.put_dated_grid.Goals as goal

pub returns : goal.returns
returns g c = puts_on c.put_caption.ensures (rw c.dated_axis-axis.ensures.value at (puts_on c.put_line_shape.ensures (puts_on c.put_all_marks.ensures (puts_nothing _))))
