use Rattle.hw_model.specs.declared.lit.Lit.TheVariants.{AtOrAfter}
use Rattle.hw_split_text.proofs.Rooms.{uncut, next_open, cut_more, all_cut}
use Rattle.hw_split_text.proofs.room.room_of.Goals as goal

pub loop-lit-init : goal.loop-lit-init
loop-lit-init c = rw c.in_ok-room.ensures.value (uncut c.args.shape c.args.literals.now c.requires.in_turn)

pub cut-requires : goal.cut-requires
cut-requires c =
    let here = next_open c.args.shape c.args.literals.now c.loop-lit.room c.loop-lit.lit-index (AtOrAfter 0 0) c.loop-lit-test.true c.loop-lit.invariant in
    record { fits = here.0; free = here.1 }

pub loop-lit-preserved : goal.loop-lit-preserved
loop-lit-preserved c = cut_more c.args.shape c.args.literals.now c.loop-lit.room c.cut.new.room c.loop-lit.lit-index (AtOrAfter 0 0) c.loop-lit-test.true c.cut.ensures.room c.loop-lit.invariant

pub returns : goal.returns
returns c = all_cut c.args.shape c.args.literals.now c.loop-lit.room c.loop-lit.lit-index c.loop-lit-test.false c.loop-lit.invariant
