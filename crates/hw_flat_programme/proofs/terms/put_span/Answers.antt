use Rattle.std.proofs.Common.{◌<◌, ◌≤◌, refl, arith}
use Rattle.hw_desk.proofs.Written.{puts_on, puts_same, puts_nothing}
use Rattle.hw_flat_programme.specs.Rows.{term_at, terms_from}
use Rattle.hw_flat_programme.specs.Texts.{terms_text}
use Rattle.hw_flat_programme.proofs.Onward.{terms_text-append, texts_next, texts_end}
use Rattle.hw_flat_programme.proofs.terms.put_span.Goals as goal

pub loop-slot-preserved : goal.loop-slot-preserved
loop-slot-preserved g c =
    let lt : c.loop-slot.slot < c.args.span.to = omega (arith, c.loop-slot-test.true) in
    λ end h. c.loop-slot.invariant end (puts_same _ (texts_next (terms_text c.args.flat.now.slots c.args.mark) (terms_text-append c.args.flat.now.slots c.args.mark) (term_at c.args.flat.now c.args.span.weight c.args.span.ship) (terms_from c.args.flat.now c.args.span.weight c.args.span.ship) (λ k more. refl) c.loop-slot.slot (c.args.span.to) lt) (puts_on c.put_term_at.ensures h))

pub returns : goal.returns
returns g c =
    let le : c.args.span.to ≤ c.loop-slot.slot = omega (arith, c.loop-slot-test.false) in
    c.loop-slot.invariant _ (puts_same _ (texts_end (terms_text c.args.flat.now.slots c.args.mark) (terms_from c.args.flat.now c.args.span.weight c.args.span.ship) refl (λ k. refl) c.loop-slot.slot (c.args.span.to) le) (puts_nothing _))
