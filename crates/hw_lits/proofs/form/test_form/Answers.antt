use Rattle.std.proofs.Common.{refl, arith}
use Rattle.hw_model.specs.declared.lit.Lit.TheVariants.{AtOrAfter}
use Rattle.hw_lits.proofs.Forms.{place_small, tested_more}
use Rattle.hw_lits.proofs.form.test_form.Goals as goal

pub overflow_cast-at : goal.overflow_cast-at
overflow_cast-at c = omega (arith, place_small c.args.shape c.args.lits.now c.loop-place.place c.loop-place.before c.requires.few_ships c.loop-place.invariant)

pub loop-place-preserved : goal.loop-place-preserved
loop-place-preserved c = tested_more c.args.shape c.args.lits.now c.loop-place.place c.loop-place.before _ (AtOrAfter 0 0) c.requires.few_ships c.loop-place.invariant c.loop-place-test.true refl (cc) (cc)
