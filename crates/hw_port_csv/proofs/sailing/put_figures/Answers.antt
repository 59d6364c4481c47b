use Rattle.hw_desk.proofs.Written.{puts_on, puts_same}
use Rattle.hw_port_csv.proofs.Texts.{figures_is}
use Rattle.hw_port_csv.proofs.sailing.put_figures.Goals as goal

pub returns : goal.returns
returns g c = puts_same _ (figures_is c.args.sailing.now) (puts_on c.put_slot.ensures (puts_on c.put_begin.ensures c.put_water.ensures))
