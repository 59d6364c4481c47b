use Rattle.std.proofs.Common.{◌≡◌, ◌+◌, ◌-◌, ◌∙◌, refl, ap, arith}
use Rattle.hw_model.specs.declared.shape.Shape.{Shape}
use Rattle.hw_flat_programme.specs.Programmes.{weight_of}
use Rattle.hw_flat_programme.specs.Rows.{term_at, terms_from}
use Rattle.hw_flat_programme.proofs.Sums.{weight_of-append}
use Rattle.hw_flat_programme.proofs.Onward.{counted_next, counted_end}
use Rattle.hw_flat_programme.proofs.span.span_weight.Goals as goal

pub loop-slot-preserved : goal.loop-slot-preserved
loop-slot-preserved c =
    let one = term_at c.args.flat.now c.args.span.weight c.args.span.ship in
    let whole = terms_from c.args.flat.now c.args.span.weight c.args.span.ship in
    let next : weight_of (whole c.loop-slot.slot (c.args.span.to - c.loop-slot.slot)) ≡ weight_of (one c.loop-slot.slot) + weight_of (whole (c.loop-slot.slot + 1) (c.args.span.to - (c.loop-slot.slot + 1))) =
    ap weight_of (counted_next one whole (λ k more. refl) c.loop-slot.slot c.args.span.to c.loop-slot-test.true) ∙ weight_of-append (one c.loop-slot.slot) (whole (c.loop-slot.slot + 1) (c.args.span.to - (c.loop-slot.slot + 1))) in
    (omega (arith, next, c.slot_weight-sum.ensures.value, c.loop-slot.invariant.0), omega (arith, c.loop-slot.invariant.1, c.slot_weight-sum.ensures.small, c.requires.fits.small, c.loop-slot-test.true))

pub returns : goal.returns
returns c =
    let none : weight_of (terms_from c.args.flat.now c.args.span.weight c.args.span.ship c.loop-slot.slot (c.args.span.to - c.loop-slot.slot)) ≡ 0 = ap weight_of (counted_end (terms_from c.args.flat.now c.args.span.weight c.args.span.ship) (λ k. refl) c.loop-slot.slot c.args.span.to c.loop-slot-test.false) in
    record { value = omega (arith, none, c.loop-slot.invariant.0); small = omega (arith, c.loop-slot.invariant.1, ap (λ (s : Shape). s.slots) c.shape-slots.ensures.value, c.shape-slots.ensures.fits.few_slots, c.requires.fits.slots_in) }
