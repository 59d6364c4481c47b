use Rattle.hw_port_csv.proofs.Told.{times_law}
use Rattle.hw_port_csv.proofs.laws.times_are_true.Goals as goal

pub returns : goal.returns
returns c = times_law
