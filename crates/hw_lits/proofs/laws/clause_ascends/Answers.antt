use Rattle.hw_lits.proofs.Ascending.{ascends}
use Rattle.hw_lits.proofs.laws.clause_ascends.Goals as goal

pub returns : goal.returns
returns c = ascends
