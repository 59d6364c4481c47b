use Rattle.std.proofs.Common.{◌≡◌, ◌+◌, length, subst, sym, ap, arith}
use Rattle.hw_model.specs.declared.shape.Shape.{Shape}
use Rattle.hw_model.specs.declared.source.Source.TheVariants as sources
use Rattle.hw_rules.specs.Sources.{AreSourcesBefore}
use Rattle.hw_rules.proofs.Listed.{rules_more, rules_end}
use Rattle.hw_rules.proofs.listing.push_rules.Goals as goal

pub loop-place-preserved : goal.loop-place-preserved
loop-place-preserved c h =
    let rules : c.shape-rules.result.rules ≡ length c.args.flat.now.rules = ap (λ (s : Shape). s.rules) c.shape-rules.ensures.value in
    subst (AreSourcesBefore c.args.flat.now (sources.Rule (c.loop-place.place + 1))) (sym c.in_ok-push.ensures.items)
    (rules_more c.args.flat.now c.loop-place.place c.loop-place.out.items (omega (arith, rules)) (c.loop-place.invariant h))

pub returns : goal.returns
returns c h =
    let rules : c.shape-rules.result.rules ≡ length c.args.flat.now.rules = ap (λ (s : Shape). s.rules) c.shape-rules.ensures.value in
    rules_end c.args.flat.now c.loop-place.place c.loop-place.out.items (omega (arith, rules)) (c.loop-place.invariant h)
