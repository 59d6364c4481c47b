use Rattle.hw_cert_lines.proofs.Priced.{valid_tolls}
use Rattle.hw_cert_lines.proofs.laws.valid_tolls.Goals as goal

pub returns : goal.returns
returns c = valid_tolls
