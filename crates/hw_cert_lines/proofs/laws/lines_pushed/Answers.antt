use Rattle.hw_cert_lines.proofs.Pushed.{one_more}
use Rattle.hw_cert_lines.proofs.laws.lines_pushed.Goals as goal

pub returns : goal.returns
returns c = one_more
