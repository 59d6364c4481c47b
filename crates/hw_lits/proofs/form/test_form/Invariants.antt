use Rattle.hw_lits.proofs.Forms.{IsTested}
use Rattle.hw_lits.proofs.form.test_form.Given as goal

abbrev pub invariant-loop-place : goal.invariant-loop-place
invariant-loop-place l = IsTested l.shape l.lits l.place l.before
