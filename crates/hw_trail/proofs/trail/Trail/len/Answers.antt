use Rattle.std.proofs.Common.{arith}
use Rattle.hw_trail.proofs.Few.{events_few}
use Rattle.hw_trail.proofs.trail.Trail.len.Goals as goal

pub overflow_cast-result : goal.overflow_cast-result
overflow_cast-result c = omega (arith, events_few _ _ _ c.self.invariant.0)
