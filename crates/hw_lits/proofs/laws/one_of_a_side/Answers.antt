use Rattle.hw_lits.proofs.Ascending.{one_place}
use Rattle.hw_lits.proofs.laws.one_of_a_side.Goals as goal

pub returns : goal.returns
returns c = one_place
