use Rattle.std.proofs.Common.{arith}
use Rattle.hw_lits.specs.Normal.{widest_shape}
use Rattle.hw_lits.proofs.Forms.{clause_wider}
use Rattle.hw_lits.proofs.clause.Clause.from_lits.Goals as goal

pub invariant_of-result : goal.invariant_of-result
invariant_of-result c = rw c.in_ok-lits.ensures.items (clause_wider c.args.shape widest_shape c.args.lits.now (omega arith) (omega arith) c.in_ok-test_form.ensures.normal)
