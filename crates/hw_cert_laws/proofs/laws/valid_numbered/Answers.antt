use Rattle.hw_cert_laws.proofs.Numbered.{numbered}
use Rattle.hw_cert_laws.proofs.laws.valid_numbered.Goals as goal

pub returns : goal.returns
returns c = numbered
