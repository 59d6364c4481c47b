use Rattle.hw_model_laws.proofs.Rows as rows
use Rattle.hw_model_laws.proofs.laws.quiet_rows.Goals as goal

pub returns : goal.returns
returns c = rows.quiet_rows
