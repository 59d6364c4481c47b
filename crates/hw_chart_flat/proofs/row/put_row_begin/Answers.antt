use Rattle.hw_desk.proofs.Written.{puts_on, puts_nothing}
use Rattle.hw_chart_flat.specs.Rows.{flat_row_begin, flat_row_label}
use Rattle.hw_chart_flat.proofs.row.put_row_begin.Goals as goal

pub returns : goal.returns
unfolding flat_row_begin flat_row_label
returns g c =
    let stripe = rw c.row_y.ensures.value at c.put_stripe.ensures in
    let number = rw (c.from-y.ensures, c.row_y-2.ensures.value, c.from-ship.ensures) at c.put_line.ensures in
    let most = rw (c.from-y.ensures, c.row_y-2.ensures.value, c.most-top.ensures) at c.put_line-2.ensures in
    puts_on c.put_row_title.ensures (puts_on stripe (puts_on (puts_on number most) (puts_on c.put_values.ensures (puts_nothing _))))
