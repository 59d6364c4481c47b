use Rattle.std.proofs.Common.{◌≡◌, ◌<◌, ◌≤◌, ◌+◌, ◌-◌, ◌++◌, ◌∙◌, [], refl, sym, ap, arith}
use Rattle.hw_model.specs.declared.shape.Shape.{Shape}
use Rattle.hw_flat_programme.specs.Programmes.{weight_of}
use Rattle.hw_flat_programme.specs.Rows.{span_terms, whole_span, value_terms, ships_terms}
use Rattle.hw_flat_programme.proofs.Empty.{without_value, without_weight, front_some}
use Rattle.hw_flat_programme.proofs.Onward.{counted_next, counted_end, shown_some}
use Rattle.hw_flat_programme.proofs.programme.is_empty.Goals as goal

pub loop-ship-preserved : goal.loop-ship-preserved
loop-ship-preserved c format =
    let lt : c.loop-ship.ship < c.args.flat.now.ships = omega (arith, ap (λ (s : Shape). s.ships) c.shape-ship-end.ensures.value, c.loop-ship-test.true) in
    let next = counted_next (λ ship. value_terms format c.args.flat.now ship 0 c.args.flat.now.slots) (ships_terms format c.args.flat.now) (λ k more. refl) c.loop-ship.ship c.args.flat.now.ships lt in
    let weight : c.span_weight.result ≡ weight_of (span_terms c.args.flat.now (whole_span c.args.flat.now c.loop-ship.ship)) = rw c.whole_span.ensures.value at c.span_weight.ensures.value in
    let none : value_terms format c.args.flat.now c.loop-ship.ship 0 c.args.flat.now.slots ≡ [] = without_value format c.args.flat.now c.loop-ship.ship (sym weight ∙ c.if-span_weight-ne0.false) in
    sym (next ∙ ap (λ ts. ts ++ ships_terms format c.args.flat.now (c.loop-ship.ship + 1) (c.args.flat.now.ships - (c.loop-ship.ship + 1))) none) ∙ c.loop-ship.invariant format

pub returns-then-span_weight-ne0-clause-some : goal.returns-then-span_weight-ne0-clause-some
returns-then-span_weight-ne0-clause-some c format _ =
    let lt : c.loop-ship.ship < c.args.flat.now.ships = omega (arith, ap (λ (s : Shape). s.ships) c.shape-ship-end.ensures.value, c.loop-ship-test.true) in
    let next = counted_next (λ ship. value_terms format c.args.flat.now ship 0 c.args.flat.now.slots) (ships_terms format c.args.flat.now) (λ k more. refl) c.loop-ship.ship c.args.flat.now.ships lt in
    let weight : c.span_weight.result ≡ weight_of (span_terms c.args.flat.now (whole_span c.args.flat.now c.loop-ship.ship)) = rw c.whole_span.ensures.value at c.span_weight.ensures.value in
    shown_some (ships_terms format c.args.flat.now 0 c.args.flat.now.ships) (λ e. front_some (value_terms format c.args.flat.now c.loop-ship.ship 0 c.args.flat.now.slots) (ships_terms format c.args.flat.now (c.loop-ship.ship + 1) (c.args.flat.now.ships - (c.loop-ship.ship + 1)))
    (λ none. c.if-span_weight-ne0.true (weight ∙ without_weight format c.args.flat.now c.loop-ship.ship none)) (sym next ∙ c.loop-ship.invariant format ∙ e))

pub returns-clause-empty : goal.returns-clause-empty
returns-clause-empty c format _ =
    let le : c.args.flat.now.ships ≤ c.loop-ship.ship = omega (arith, ap (λ (s : Shape). s.ships) c.shape-ship-end.ensures.value, c.loop-ship-test.false) in
    sym (c.loop-ship.invariant format) ∙ counted_end (ships_terms format c.args.flat.now) (λ k. refl) c.loop-ship.ship c.args.flat.now.ships le
