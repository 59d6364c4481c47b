use Rattle.hw_cert.proofs.Overlong.{overlong_passes}
use Rattle.hw_cert.proofs.laws.overlong_passes.Goals as goal

pub returns : goal.returns
returns c = overlong_passes
