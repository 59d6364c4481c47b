use Rattle.hw_cert_laws.proofs.Rows as rows
use Rattle.hw_cert_laws.proofs.laws.renewed_rows.Goals as goal

pub returns : goal.returns
returns c = rows.renewed_rows
