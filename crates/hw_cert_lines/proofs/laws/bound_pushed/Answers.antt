use Rattle.hw_cert_lines.proofs.Added.{bound_added}
use Rattle.hw_cert_lines.proofs.laws.bound_pushed.Goals as goal

pub returns : goal.returns
returns c = bound_added
