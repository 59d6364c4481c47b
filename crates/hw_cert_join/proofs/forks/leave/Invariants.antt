use Rattle.std.proofs.Common.{length}
use Rattle.hw_cert_join.specs.Climbs.{ClimbFits}
use Rattle.hw_cert_join.proofs.forks.leave.Given as goal

abbrev pub invariant-loop-fork : goal.invariant-loop-fork
invariant-loop-fork l = ClimbFits l.flat l.climb

abbrev pub decreases-loop-fork : goal.decreases-loop-fork
decreases-loop-fork l = length l.climb.forks.items
