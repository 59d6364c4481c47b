use Rattle.std.proofs.Common.{arith, rules}
use Rattle.hw_model.specs.Lits.{IsClause}
use Rattle.hw_lits.specs.Normal.{widest_shape}
use Rattle.hw_lits.proofs.Forms.{clause_wider}
use Rattle.hw_lits.proofs.clause.Clause.from_list.Goals as goal

pub invariant_of-result : goal.invariant_of-result
invariant_of-result c =
    let normal : IsClause c.args.shape c.args.lits.items = search rules in
    clause_wider c.args.shape widest_shape c.args.lits.items (omega arith) (omega arith) normal
