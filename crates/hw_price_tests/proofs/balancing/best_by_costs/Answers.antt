use Rattle.std.proofs.Common.{◌≡◌, ◌+◌, ◌≤◌, ap, ◌∙◌, arith, get_or}
use Rattle.hw_rules.proofs.Passes.{fold_step}
use Rattle.hw_price_laws.specs.Computed.{balance, better}
use Rattle.hw_price_tests.proofs.Charged.{by_cost}
use Rattle.hw_price_tests.proofs.balancing.best_by_costs.Goals as goal

pub loop-slot-preserved : goal.loop-slot-preserved
loop-slot-preserved c =
    let upto : c.loop-slot.slot ≤ c.args.range.high = omega (arith, c.loop-slot-test.true, c.slot_after-slot-end.ensures.value) in
    let next : c.costed-next.result ≡ balance c.args.flat.now c.args.tolls.now c.args.tariff.now c.args.range.ship c.loop-slot.slot =
    by_cost c.args.flat.now c.args.tolls.now c.args.tariff.now c.args.range.ship c.loop-slot.slot (get_or c.args.costs.now c.loop-slot.slot 0) c.value.result c.costed-next.result c.costed-next.ensures.value c.value.ensures.value (c.requires.told c.loop-slot.slot c.loop-slot.auto.slot upto)
    in
    record {
      small = c.better-most.ensures.small;
      told = fold_step (λ most slot. better most (balance c.args.flat.now c.args.tolls.now c.args.tariff.now c.args.range.ship slot)) c.loop-slot.most c.better-most.result c.loop-slot.slot (c.args.range.high + 1) _ (omega (arith, c.loop-slot-test.true, c.slot_after-slot-end.ensures.value)) (c.better-most.ensures.value ∙ ap (better c.loop-slot.most) next) c.loop-slot.invariant.told;
    }
