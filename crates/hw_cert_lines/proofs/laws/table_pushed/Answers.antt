use Rattle.hw_cert_lines.proofs.Pushed.{table_added}
use Rattle.hw_cert_lines.proofs.laws.table_pushed.Goals as goal

pub returns : goal.returns
returns c = table_added
