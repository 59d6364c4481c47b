use Rattle.std.proofs.Common.{refl}
use Rattle.hw_model.specs.declared.lit.Lit.TheVariants.{AtOrAfter}
use Rattle.hw_flat.specs.Opened.{shape_in}
use Rattle.hw_lits.proofs.Denials.{denying_starts, denying_more, next_leaves}
use Rattle.hw_lits.proofs.denying.deny.Goals as goal

pub loop-lit-init : goal.loop-lit-init
loop-lit-init c = rw c.reset.ensures.whole (denying_starts c.args.room.now c.args.clause.now c.reset.ensures.room c.requires.fits)

pub exclude-requires-clause-leaves : goal.exclude-requires-clause-leaves
exclude-requires-clause-leaves c =
    rw c.as_slice-lit-items.ensures.value
    (next_leaves (shape_in c.args.room.now) c.args.clause.now c.loop-lit.lit-index c.loop-lit.room _ (AtOrAfter 0 0) c.loop-lit.invariant (rw (← c.as_slice-lit-items.ensures.value) c.loop-lit-test.true) refl)

pub loop-lit-preserved : goal.loop-lit-preserved
loop-lit-preserved c =
    rw (c.exclude.ensures.room, c.as_slice-lit-items.ensures.value)
    (denying_more (shape_in c.args.room.now) c.args.clause.now c.loop-lit.lit-index c.loop-lit.room _ (AtOrAfter 0 0) c.loop-lit.invariant (rw (← c.as_slice-lit-items.ensures.value) c.loop-lit-test.true) refl)
