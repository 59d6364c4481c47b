use Rattle.std.proofs.Common.{◌≡◌, ◌∙◌, sym, ap, arith}
use Rattle.hw_desk.proofs.Written.{puts_same}
use Rattle.hw_flat_programme.specs.Programmes.{weight_of}
use Rattle.hw_flat_programme.specs.Rows.{span_terms, whole_span}
use Rattle.hw_flat_programme.specs.Texts.{with_a_term, terms_text}
use Rattle.hw_flat_programme.proofs.Empty.{without_terms}
use Rattle.hw_flat_programme.proofs.Onward.{heavy_some, shown_some}
use Rattle.hw_flat_programme.proofs.rows.put_ship_terms.Goals as goal

pub returns-then-span_weight-eq0 : goal.returns-then-span_weight-eq0
returns-then-span_weight-eq0 g c =
    let weight : c.span_weight.result ≡ weight_of (span_terms c.args.flat.now (whole_span c.args.flat.now c.args.ship)) = rw c.whole_span-span.ensures.value at c.span_weight.ensures.value in
    puts_same _ (ap (λ ts. terms_text c.args.flat.now.slots c.args.mark (with_a_term ts)) (without_terms c.args.flat.now c.args.ship (sym weight ∙ c.if-span_weight-eq0.true))) c.put_no_terms.ensures

pub returns-else-span_weight-eq0 : goal.returns-else-span_weight-eq0
returns-else-span_weight-eq0 g c =
    let weight : c.span_weight.result ≡ weight_of (span_terms c.args.flat.now (whole_span c.args.flat.now c.args.ship)) = rw c.whole_span-span.ensures.value at c.span_weight.ensures.value in
    puts_same _ (ap (terms_text c.args.flat.now.slots c.args.mark) (shown_some (span_terms c.args.flat.now (whole_span c.args.flat.now c.args.ship)) (heavy_some (span_terms c.args.flat.now (whole_span c.args.flat.now c.args.ship)) 0 (omega (arith, weight, c.if-span_weight-eq0.false))))) (rw c.whole_span-span.ensures.value at c.put_span.ensures)
