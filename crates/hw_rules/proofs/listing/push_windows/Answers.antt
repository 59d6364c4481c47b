use Rattle.std.proofs.Common.{◌≡◌, ◌+◌, subst, sym, ap, arith}
use Rattle.hw_model.specs.declared.shape.Shape.{Shape}
use Rattle.hw_model.specs.declared.source.Source.TheVariants as sources
use Rattle.hw_rules.specs.Sources.{AreSourcesBefore}
use Rattle.hw_rules.proofs.Listed.{windows_more, windows_end}
use Rattle.hw_rules.proofs.listing.push_windows.Goals as goal

pub loop-ship-preserved : goal.loop-ship-preserved
loop-ship-preserved c h =
    let ships : c.shape-ships.result.ships ≡ c.args.flat.now.ships = ap (λ (s : Shape). s.ships) c.shape-ships.ensures.value in
    subst (AreSourcesBefore c.args.flat.now (sources.Window (c.loop-ship.ship + 1))) (sym c.in_ok-push.ensures.items)
    (windows_more c.args.flat.now c.loop-ship.ship c.loop-ship.out.items (omega (arith, ships)) (c.loop-ship.invariant h))

pub returns : goal.returns
returns c h =
    let ships : c.shape-ships.result.ships ≡ c.args.flat.now.ships = ap (λ (s : Shape). s.ships) c.shape-ships.ensures.value in
    windows_end c.args.flat.now c.loop-ship.ship c.loop-ship.out.items (omega (arith, ships)) (c.loop-ship.invariant h)
