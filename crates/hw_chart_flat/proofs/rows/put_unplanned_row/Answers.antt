use Rattle.hw_desk.proofs.Written.{puts_on, puts_nothing}
use Rattle.hw_chart_flat.specs.Rows.{unplanned_row_text}
use Rattle.hw_chart_flat.proofs.rows.put_unplanned_row.Goals as goal

pub returns : goal.returns
unfolding unplanned_row_text
returns g c =
    let begin = rw c.horizon.ensures.value at c.put_row_begin.ensures in
    puts_on begin (puts_on c.put_nowhere.ensures (puts_on c.put_group_end.ensures (puts_nothing _)))
