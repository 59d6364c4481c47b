use Rattle.hw_cert_laws.proofs.Refused.{valid_judge}
use Rattle.hw_cert_laws.proofs.laws.judged_exactly.Goals as goal

pub returns : goal.returns
returns c = valid_judge
