use Rattle.hw_port_csv.proofs.Told.{told_law}
use Rattle.hw_port_csv.proofs.laws.records_are_true.Goals as goal

pub returns : goal.returns
returns c = told_law
