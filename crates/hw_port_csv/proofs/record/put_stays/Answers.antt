use Rattle.hw_desk.proofs.Written.{puts_on, puts_same}
use Rattle.hw_port_csv.proofs.Texts.{stays_is}
use Rattle.hw_port_csv.proofs.record.put_stays.Goals as goal

pub returns : goal.returns
returns g c = puts_same _ (stays_is _) (puts_on c.put_no_figures.ensures c.put_all_empty.ensures)
