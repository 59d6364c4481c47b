use Rattle.hw_port.proofs.Faultless.{faultless_law}
use Rattle.hw_port.proofs.laws.faultless_is_kept.Goals as goal

pub returns : goal.returns
returns c = faultless_law
