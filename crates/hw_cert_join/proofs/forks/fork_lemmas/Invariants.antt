use Rattle.hw_cert_join.specs.Climbs.{ClimbFits}
use Rattle.hw_cert_join.proofs.forks.fork_lemmas.Given as goal

abbrev pub invariant-loop-node : goal.invariant-loop-node
invariant-loop-node l = ClimbFits l.flat l.climb
