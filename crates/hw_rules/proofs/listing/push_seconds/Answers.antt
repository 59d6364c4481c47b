use Rattle.std.proofs.Common.{◌≡◌, ap, arith}
use Rattle.hw_model.specs.declared.shape.Shape.{Shape}
use Rattle.hw_rules.proofs.Listed.{seconds_end}
use Rattle.hw_rules.proofs.listing.push_seconds.Goals as goal

pub returns : goal.returns
returns c h =
    let ships : c.shape-ships.result.ships ≡ c.args.flat.now.ships = ap (λ (s : Shape). s.ships) c.shape-ships.ensures.value in
    seconds_end c.args.flat.now c.args.v c.loop-w.w c.loop-w.out.items (omega (arith, ships)) (c.loop-w.invariant h)
