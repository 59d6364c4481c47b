use Rattle.std.proofs.Common.{◌≡◌, ◌+◌, ◌∙◌, drop, get_or, ap, arith}
use Rattle.std.proofs.lemmas.List.{get_or_default}
use Rattle.hw_flat_programme.specs.declared.span.Span.{Span}
use Rattle.hw_flat_programme.specs.Programmes.{weight_of}
use Rattle.hw_flat_programme.specs.Rows.{span_terms, terms_of}
use Rattle.hw_flat_programme.proofs.Sums.{weight_of-append}
use Rattle.hw_flat_programme.proofs.Onward.{item_next, item_end}
use Rattle.hw_flat_programme.proofs.span.weight.Goals as goal

pub loop-span-preserved : goal.loop-span-preserved
loop-span-preserved c =
    let xs = c.args.spans.now in
    let i = c.loop-span.span-index in
    let x : Span = get_or xs i (record { ship = 0; from = 0; to = 0; weight = 0 }) in
    let next : weight_of (terms_of c.args.flat.now (drop i xs)) ≡ weight_of (span_terms c.args.flat.now x) + weight_of (terms_of c.args.flat.now (drop (i + 1) xs)) =
    ap (λ ys. weight_of (terms_of c.args.flat.now ys)) (item_next i xs x c.loop-span-test.true (get_or_default xs i (record { ship = 0; from = 0; to = 0; weight = 0 }) x c.loop-span-test.true)) ∙ weight_of-append (span_terms c.args.flat.now x) (terms_of c.args.flat.now (drop (i + 1) xs)) in
    (omega (arith, next, c.span_weight-sum.ensures.value, c.loop-span.invariant.0), omega (arith, c.loop-span.invariant.1, c.span_weight-sum.ensures.small))

pub returns : goal.returns
returns c =
    let none : weight_of (terms_of c.args.flat.now (drop c.loop-span.span-index c.args.spans.now)) ≡ 0 = ap (λ ys. weight_of (terms_of c.args.flat.now ys)) (item_end c.loop-span.span-index c.args.spans.now c.loop-span-test.false) in
    omega (arith, none, c.loop-span.invariant.0)
