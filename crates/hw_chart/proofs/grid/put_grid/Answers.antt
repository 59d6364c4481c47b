use Rattle.std.proofs.Common.{append-nil}
use Rattle.hw_desk.proofs.Written.{puts_on, puts_nothing}
use Rattle.hw_chart.specs.Grids.{caption_text}
use Rattle.hw_chart.proofs.grid.put_grid.Goals as goal

pub returns : goal.returns
returns g c =
    let axis = c.axis_over-axis.ensures.value in
    let caption = rw (c.caption.ensures, append-nil (caption_text c.args.scale)) at c.put_line.ensures in
    let lines = puts_on c.put_shape_begin.ensures (puts_on (rw axis at c.put_line_paths.ensures) (puts_on c.put.ensures.puts (puts_nothing _))) in
    puts_on caption (puts_on lines (puts_on (rw axis at c.put_marks.ensures) (puts_nothing _)))
