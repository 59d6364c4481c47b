use Rattle.hw_desk.proofs.Written.{puts_on, puts_nothing}
use Rattle.hw_chart_flat.specs.Rows.{values_text}
use Rattle.hw_chart_flat.proofs.row.put_values.Goals as goal

pub returns : goal.returns
unfolding values_text
returns g c =
    let window = c.value_window-window.ensures in
    let top = c.most-top.ensures in
    let begin = rw window at c.put_sailings_begin.ensures in
    let steps = puts_on (rw (window, top) at c.put_sailing_steps.ensures) (rw (window, top) at c.put_sailing_steps-2.ensures) in
    puts_on begin (puts_on steps (puts_on c.put_value_mark.ensures (puts_on c.put_svg_end.ensures (puts_nothing _))))
