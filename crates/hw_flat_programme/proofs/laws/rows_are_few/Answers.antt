use Rattle.hw_flat_programme.proofs.Few.{rows_few}
use Rattle.hw_flat_programme.proofs.laws.rows_are_few.Goals as goal

pub returns : goal.returns
returns c = rows_few
