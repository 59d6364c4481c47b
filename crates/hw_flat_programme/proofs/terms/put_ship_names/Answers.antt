use Rattle.std.proofs.Common.{◌<◌, ◌≤◌, refl, arith, ap}
use Rattle.hw_model.specs.declared.shape.Shape.{Shape}
use Rattle.hw_desk.proofs.Written.{puts_on, puts_same, puts_nothing}
use Rattle.hw_model.specs.Problem.{value_at}
use Rattle.hw_flat_programme.specs.declared.format.Format.TheVariants.{Lp}
use Rattle.hw_flat_programme.specs.Rows.{most, value_term, value_terms}
use Rattle.hw_flat_programme.specs.Texts.{variables_text}
use Rattle.hw_flat_programme.proofs.Onward.{names_text-append, texts_next, texts_end}
use Rattle.hw_flat_programme.proofs.terms.put_ship_names.Goals as goal

pub loop-slot-preserved : goal.loop-slot-preserved
loop-slot-preserved g c =
    let lt : c.loop-slot.slot < c.args.flat.now.slots = omega (arith, ap (λ (s : Shape). s.slots) c.shape-slot-end.ensures.value, c.loop-slot-test.true) in
    λ end h. c.loop-slot.invariant end (puts_same _ (texts_next variables_text names_text-append (λ slot. value_term Lp (most c.args.flat.now c.args.ship) c.args.ship slot (value_at c.args.flat.now c.args.ship slot)) (value_terms Lp c.args.flat.now c.args.ship) (λ k more. refl) c.loop-slot.slot (c.args.flat.now.slots) lt) (puts_on c.put_name_at.ensures h))

pub returns : goal.returns
returns g c =
    let le : c.args.flat.now.slots ≤ c.loop-slot.slot = omega (arith, ap (λ (s : Shape). s.slots) c.shape-slot-end.ensures.value, c.loop-slot-test.false) in
    c.loop-slot.invariant _ (puts_same _ (texts_end variables_text (value_terms Lp c.args.flat.now c.args.ship) refl (λ k. refl) c.loop-slot.slot (c.args.flat.now.slots) le) (puts_nothing _))
