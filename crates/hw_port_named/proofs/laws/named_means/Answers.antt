use Rattle.hw_port_named.proofs.Numbers.{named_means}
use Rattle.hw_port_named.proofs.laws.named_means.Goals as goal

pub returns : goal.returns
returns c = named_means
