use Rattle.hw_port_windows.proofs.Statuses.{reason_law}
use Rattle.hw_port_windows.proofs.laws.reason_true.Goals as goal

pub returns : goal.returns
returns c = reason_law
