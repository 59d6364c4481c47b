use Rattle.hw_port_csv.proofs.ReadBack.{columns_law}
use Rattle.hw_port_csv.proofs.laws.same_columns.Goals as goal

pub returns : goal.returns
returns c = columns_law
