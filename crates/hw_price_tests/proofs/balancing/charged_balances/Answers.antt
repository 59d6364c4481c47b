use Rattle.std.proofs.Common.{◌≡◌, ap, ◌∙◌, arith}
use Rattle.hw_model.specs.Rooms.{low_of, high_of}
use Rattle.hw_rules.proofs.Passes.{fold_step}
use Rattle.hw_price_laws.specs.Computed.{best_balance, together}
use Rattle.hw_price_laws.proofs.Tops.{same_best}
use Rattle.hw_price_tests.proofs.balancing.charged_balances.Goals as goal

pub loop-ship-preserved : goal.loop-ship-preserved
loop-ship-preserved c =
    let ships : c.shape-ship-end.result.ships ≡ c.args.flat.now.ships = ap (λ s. s.ships) c.shape-ship-end.ensures.value in
    let next : c.best_charged.result ≡ best_balance c.args.flat.now c.args.tolls.now c.args.tariff.now c.loop-ship.ship (low_of c.args.room.now c.loop-ship.ship) (high_of c.args.room.now c.loop-ship.ship) =
    c.best_charged.ensures.value ∙ same_best c.args.flat.now c.args.tolls.now c.args.tariff.now c.loop-ship.ship c.low.result c.high.result _ _ c.low.ensures.value c.high.ensures.value
    in
    record {
      small = c.together-sum.ensures.parts c.loop-ship.ship c.loop-ship.invariant.small;
      told = fold_step (λ sum ship. together sum (best_balance c.args.flat.now c.args.tolls.now c.args.tariff.now ship (low_of c.args.room.now ship) (high_of c.args.room.now ship))) c.loop-ship.sum c.together-sum.result c.loop-ship.ship c.args.flat.now.ships _ (omega (arith, c.loop-ship-test.true, ships)) (c.together-sum.ensures.value ∙ ap (together c.loop-ship.sum) next) c.loop-ship.invariant.told;
    }
