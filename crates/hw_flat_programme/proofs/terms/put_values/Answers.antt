use Rattle.std.proofs.Common.{◌<◌, ◌≤◌, refl, arith, ap}
use Rattle.hw_model.specs.declared.shape.Shape.{Shape}
use Rattle.hw_desk.proofs.Written.{puts_on, puts_same, puts_nothing}
use Rattle.hw_model.specs.Problem.{value_at}
use Rattle.hw_flat_programme.specs.declared.format.Sense.TheVariants.{Exactly}
use Rattle.hw_flat_programme.specs.Rows.{most, value_term, value_terms}
use Rattle.hw_flat_programme.specs.Texts.{mark_of, terms_text}
use Rattle.hw_flat_programme.proofs.Onward.{terms_text-append, texts_next, texts_end}
use Rattle.hw_flat_programme.proofs.terms.put_values.Goals as goal

pub loop-slot-preserved : goal.loop-slot-preserved
loop-slot-preserved g c =
    let lt : c.loop-slot.slot < c.args.flat.now.slots = omega (arith, ap (λ (s : Shape). s.slots) c.shape-slot-end.ensures.value, c.loop-slot-test.true) in
    λ end h. c.loop-slot.invariant end (puts_same _ (texts_next (terms_text c.args.flat.now.slots (mark_of c.args.format Exactly)) (terms_text-append c.args.flat.now.slots (mark_of c.args.format Exactly)) (λ slot. value_term c.args.format (most c.args.flat.now c.args.ship) c.args.ship slot (value_at c.args.flat.now c.args.ship slot)) (value_terms c.args.format c.args.flat.now c.args.ship) (λ k more. refl) c.loop-slot.slot (c.args.flat.now.slots) lt) (puts_on (rw c.most-top.ensures.value at c.put_value.ensures) h))

pub returns : goal.returns
returns g c =
    let le : c.args.flat.now.slots ≤ c.loop-slot.slot = omega (arith, ap (λ (s : Shape). s.slots) c.shape-slot-end.ensures.value, c.loop-slot-test.false) in
    c.loop-slot.invariant _ (puts_same _ (texts_end (terms_text c.args.flat.now.slots (mark_of c.args.format Exactly)) (value_terms c.args.format c.args.flat.now c.args.ship) refl (λ k. refl) c.loop-slot.slot (c.args.flat.now.slots) le) (puts_nothing _))
