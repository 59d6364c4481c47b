use Rattle.hw_flat_laws.proofs.Rows as rows
use Rattle.hw_flat_laws.proofs.laws.bad_hours_rows.Goals as goal

pub returns : goal.returns
returns c = rows.bad_hours_rows
