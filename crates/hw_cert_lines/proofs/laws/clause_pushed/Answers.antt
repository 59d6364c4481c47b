use Rattle.hw_cert_lines.proofs.Pushed.{clause_added}
use Rattle.hw_cert_lines.proofs.laws.clause_pushed.Goals as goal

pub returns : goal.returns
returns c = clause_added
