use Rattle.hw_port_dates.proofs.Moments.{compose_law}
use Rattle.hw_port_dates.proofs.laws.moments_compose.Goals as goal

pub returns : goal.returns
returns c = compose_law
