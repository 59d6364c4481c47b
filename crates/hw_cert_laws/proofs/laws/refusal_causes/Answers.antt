use Rattle.hw_cert_laws.proofs.Caused.{caused}
use Rattle.hw_cert_laws.proofs.laws.refusal_causes.Goals as goal

pub returns : goal.returns
returns c = caused
