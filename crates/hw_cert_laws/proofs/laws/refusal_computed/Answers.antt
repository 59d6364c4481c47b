use Rattle.hw_cert_laws.proofs.Refused.{valid_from, from_valid}
use Rattle.hw_cert_laws.proofs.laws.refusal_computed.Goals as goal

pub returns : goal.returns
returns c = λ f before line fits can. (valid_from f before line fits can, from_valid f before line fits can)
