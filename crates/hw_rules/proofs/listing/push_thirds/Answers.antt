use Rattle.std.proofs.Common.{◌≡◌, ◌+◌, subst, sym, ap, arith}
use Rattle.hw_model.specs.declared.shape.Shape.{Shape}
use Rattle.hw_model.specs.declared.source.Source.TheVariants as sources
use Rattle.hw_rules.specs.Sources.{AreSourcesBefore}
use Rattle.hw_rules.proofs.Listed.{thirds_more, thirds_end}
use Rattle.hw_rules.proofs.listing.push_thirds.Goals as goal

pub loop-x-preserved : goal.loop-x-preserved
loop-x-preserved c h =
    let ships : c.shape-ships.result.ships ≡ c.args.flat.now.ships = ap (λ (s : Shape). s.ships) c.shape-ships.ensures.value in
    subst (AreSourcesBefore c.args.flat.now (sources.Order c.args.v c.args.w (c.loop-x.x + 1))) (sym c.in_ok-push.ensures.items)
    (thirds_more c.args.flat.now c.args.v c.args.w c.loop-x.x c.loop-x.out.items c.requires.ascends (omega arith) (omega (arith, ships)) (c.loop-x.invariant h))

pub returns : goal.returns
returns c h =
    let ships : c.shape-ships.result.ships ≡ c.args.flat.now.ships = ap (λ (s : Shape). s.ships) c.shape-ships.ensures.value in
    thirds_end c.args.flat.now c.args.v c.args.w c.loop-x.x c.loop-x.out.items (omega (arith, ships)) (c.loop-x.invariant h)
