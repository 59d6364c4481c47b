use Rattle.hw_cert_lines.proofs.Keeping.{kept_live}
use Rattle.hw_cert_lines.proofs.laws.kept_live.Goals as goal

pub returns : goal.returns
returns c = kept_live
