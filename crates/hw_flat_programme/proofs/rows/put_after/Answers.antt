use Rattle.std.proofs.Common.{◌<◌, ◌≤◌, refl, arith, ap}
use Rattle.hw_model.specs.declared.shape.Shape.{Shape}
use Rattle.hw_desk.proofs.Written.{puts_on, puts_same, puts_nothing}
use Rattle.hw_flat_programme.specs.Rows.{after_spans, row_at_most, numbered_rows}
use Rattle.hw_flat_programme.specs.Texts.{rows_text}
use Rattle.hw_flat_programme.proofs.Onward.{rows_text-append, texts_next, texts_end}
use Rattle.hw_flat_programme.proofs.rows.put_after.Goals as goal

pub loop-slot-preserved : goal.loop-slot-preserved
loop-slot-preserved g c =
    let lt : c.loop-slot.slot < c.args.flat.now.slots = omega (arith, ap (λ (s : Shape). s.slots) c.shape-slot-end.ensures.value, c.loop-slot-test.true) in
    λ end h. c.loop-slot.invariant end (puts_same _ (texts_next (rows_text c.args.format c.args.flat.now.slots) (rows_text-append c.args.format c.args.flat.now.slots) (λ slot. row_at_most c.args.flat.now 1 (after_spans c.args.flat.now c.args.v c.args.w c.args.gap slot)) (numbered_rows c.args.flat.now (λ k. 1) (after_spans c.args.flat.now c.args.v c.args.w c.args.gap)) (λ k more. refl) c.loop-slot.slot (c.args.flat.now.slots) lt) (puts_on (rw c.after_spans.ensures.value at c.put_at_most.ensures) h))

pub returns : goal.returns
returns g c =
    let le : c.args.flat.now.slots ≤ c.loop-slot.slot = omega (arith, ap (λ (s : Shape). s.slots) c.shape-slot-end.ensures.value, c.loop-slot-test.false) in
    c.loop-slot.invariant _ (puts_same _ (texts_end (rows_text c.args.format c.args.flat.now.slots) (numbered_rows c.args.flat.now (λ k. 1) (after_spans c.args.flat.now c.args.v c.args.w c.args.gap)) refl (λ k. refl) c.loop-slot.slot (c.args.flat.now.slots) le) (puts_nothing _))
