use Rattle.hw_lits.proofs.Told.{told}
use Rattle.hw_lits.proofs.laws.step_tells.Goals as goal

pub returns : goal.returns
returns c = told
