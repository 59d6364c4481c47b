use Rattle.hw_lits.proofs.Steps.{IsStepOf}
use Rattle.hw_lits.proofs.stepping.narrowing_lits.Given as goal

abbrev pub invariant-loop-lit : goal.invariant-loop-lit
invariant-loop-lit l = IsStepOf l.room l.lits l.lit-index l.step
