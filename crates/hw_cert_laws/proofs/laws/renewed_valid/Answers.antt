use Rattle.hw_cert_laws.proofs.Fitting.{renewing_keeps}
use Rattle.hw_cert_laws.proofs.laws.renewed_valid.Goals as goal

pub returns : goal.returns
returns c = renewing_keeps
