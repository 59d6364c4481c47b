use Rattle.hw_port_dates.proofs.Texts.{start_law}
use Rattle.hw_port_dates.proofs.laws.start_reads_back.Goals as goal

pub returns : goal.returns
returns c = start_law
