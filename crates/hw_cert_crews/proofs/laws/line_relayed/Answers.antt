use Rattle.hw_cert_crews.proofs.Tying.{line_relayed}
use Rattle.hw_cert_crews.proofs.laws.line_relayed.Goals as goal

pub returns : goal.returns
returns c = line_relayed
