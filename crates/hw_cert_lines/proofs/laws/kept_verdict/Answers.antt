use Rattle.hw_cert_lines.proofs.Keeping.{kept_verdict}
use Rattle.hw_cert_lines.proofs.laws.kept_verdict.Goals as goal

pub returns : goal.returns
returns c = kept_verdict
