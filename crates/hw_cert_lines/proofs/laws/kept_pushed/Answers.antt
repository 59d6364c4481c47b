use Rattle.hw_cert_lines.proofs.Keeping.{kept_pushed}
use Rattle.hw_cert_lines.proofs.laws.kept_pushed.Goals as goal

pub returns : goal.returns
returns c = kept_pushed
