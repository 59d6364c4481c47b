use Rattle.std.proofs.Common.{sym, subst, arith}
use Rattle.hw_lits.specs.Steps.{NarrowingTells}
use Rattle.hw_lits.proofs.Steps.{step_ends}
use Rattle.hw_lits.proofs.Told.{told}
use Rattle.hw_lits.proofs.stepping.narrowing_lits.Goals as goal

pub returns-clause-tells : goal.returns-clause-tells
returns-clause-tells c =
    subst (λ step. NarrowingTells c.args.room.now c.args.lits.now step) (sym (step_ends c.args.room.now c.args.lits.now c.loop-lit.lit-index c.loop-lit.step c.loop-lit.invariant (omega (arith, c.loop-lit-test.false)))) (told c.args.room.now c.args.lits.now)
