use Rattle.std.proofs.Common.{arith}
use Rattle.hw_lits.specs.Normal.{widest_shape}
use Rattle.hw_lits.proofs.Ranks.{normal_short}
use Rattle.hw_lits.proofs.clause.Clause.len.Goals as goal

pub overflow_cast-result : goal.overflow_cast-result
overflow_cast-result c = omega (arith, normal_short widest_shape c.self.inside.lits.items (omega arith) c.self.invariant)

pub returns-clause-few : goal.returns-clause-few
returns-clause-few c = omega (arith, normal_short widest_shape c.self.inside.lits.items (omega arith) c.self.invariant)
