use Rattle.hw_app.proofs.Owned.{own_certificate}
use Rattle.hw_app.proofs.laws.own_certificate.Goals as goal

pub returns : goal.returns
returns c = own_certificate
