use Rattle.hw_port_csv.proofs.ReadBack.{read_back_law}
use Rattle.hw_port_csv.proofs.laws.table_reads_back.Goals as goal

pub returns : goal.returns
returns c = read_back_law
