use Rattle.hw_port_windows.proofs.Statuses.{value_law}
use Rattle.hw_port_windows.proofs.laws.value_exactly_outside.Goals as goal

pub returns : goal.returns
returns c = value_law
