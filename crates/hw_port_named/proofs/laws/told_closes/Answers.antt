use Rattle.hw_port_named.proofs.Told.{told_law}
use Rattle.hw_port_named.proofs.laws.told_closes.Goals as goal

pub returns : goal.returns
returns c = told_law
