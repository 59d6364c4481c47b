use Rattle.hw_app.proofs.Owned.{renewed_certificate}
use Rattle.hw_app.proofs.laws.renewed_certificate.Goals as goal

pub returns : goal.returns
returns c = renewed_certificate
