use Rattle.hw_prop_tests.proofs.found.first_apart.Given as goal

abbrev pub invariant-loop-number : goal.invariant-loop-number
invariant-loop-number g l = g.P.Propagator.serves l.propagator l.flat
