use Rattle.hw_lits.specs.Normal.{widest_shape}
use Rattle.hw_lits.proofs.Forms.{clause_wider}
use Rattle.hw_lits.proofs.laws.clause_is_normal.Goals as goal

pub returns : goal.returns
returns c = λ shape clause ships slots is. clause_wider shape widest_shape clause ships slots is
