use Rattle.hw_desk.proofs.Written.{puts_on, puts_same}
use Rattle.hw_port_csv.proofs.Texts.{fields_on}
use Rattle.hw_port_csv.proofs.sailing.put_sailing.Goals as goal

pub returns : goal.returns
returns g c = puts_same _ (fields_on _ _) (puts_on c.put_figures.ensures c.put_all_passes.ensures)
