use Rattle.hw_port_dates.proofs.Moments.{counts_law}
use Rattle.hw_port_dates.proofs.laws.counts_are_exact.Goals as goal

pub returns : goal.returns
returns c = counts_law
