use Rattle.hw_desk.proofs.Written.{puts_on, puts_nothing}
use Rattle.hw_chart_port.proofs.row.put_ships.Goals as goal

pub returns : goal.returns
returns g c = puts_on c.put_list_begin.ensures (puts_on (rw c.ships.ensures.value at c.put_rows.ensures) (puts_on c.put_group_end.ensures (puts_nothing _)))
