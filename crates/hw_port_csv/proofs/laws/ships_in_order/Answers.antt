use Rattle.hw_port_csv.proofs.Order.{order_law}
use Rattle.hw_port_csv.proofs.laws.ships_in_order.Goals as goal

pub returns : goal.returns
returns c = order_law
