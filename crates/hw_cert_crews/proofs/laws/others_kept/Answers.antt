use Rattle.hw_cert_crews.proofs.Tying.{other_kept}
use Rattle.hw_cert_crews.proofs.laws.others_kept.Goals as goal

pub returns : goal.returns
returns c = other_kept
