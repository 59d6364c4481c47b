use Rattle.hw_cert_crews.proofs.Tying.{blank_tied}
use Rattle.hw_cert_crews.proofs.laws.blank_tied.Goals as goal

pub returns : goal.returns
returns c = blank_tied
