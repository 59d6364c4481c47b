use Rattle.hw_cert_lines.proofs.Rows.{refusal_rows}
use Rattle.hw_cert_lines.proofs.laws.refusal_rows.Goals as goal

pub returns : goal.returns
returns c = refusal_rows
