use Rattle.hw_cert_laws.proofs.Bounded.{bounds}
use Rattle.hw_cert_laws.proofs.laws.sound_bounds.Goals as goal

pub returns : goal.returns
returns c = bounds
