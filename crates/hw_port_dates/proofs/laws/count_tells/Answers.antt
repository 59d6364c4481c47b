use Rattle.hw_port_dates.proofs.Moments.{tells_law}
use Rattle.hw_port_dates.proofs.laws.count_tells.Goals as goal

pub returns : goal.returns
returns c = tells_law
