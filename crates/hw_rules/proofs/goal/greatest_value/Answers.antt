use Rattle.std.proofs.Common.{◌≡◌, ◌+◌, ◌≤◌, ap, ◌∙◌, max, unwrap_or, arith}
use Rattle.hw_model.specs.Problem.{value_at}
use Rattle.hw_rules.proofs.Passes.{fold_step}
use Rattle.hw_rules.proofs.goal.greatest_value.Goals as goal

pub loop-slot-preserved : goal.loop-slot-preserved
loop-slot-preserved c =
    let value : c.unwrap_or.result ≡ unwrap_or (value_at c.args.flat.now c.args.ship c.loop-slot.slot) 0 = c.unwrap_or.ensures ∙ ap (λ v. unwrap_or v 0) c.value.ensures.value in
    let few : unwrap_or c.value.result 0 ≤ 1_000_000_000_000 = c.value.ensures.small in
    record {
      small = omega (arith, c.max-greatest.ensures, c.unwrap_or.ensures, few, c.loop-slot.invariant.small);
      told = fold_step (λ most slot. max most (unwrap_or (value_at c.args.flat.now c.args.ship slot) 0)) c.loop-slot.greatest c.max-greatest.result c.loop-slot.slot (c.args.high + 1) _ (omega (arith, c.loop-slot-test.true, c.slot_after-slot-end.ensures.value)) (c.max-greatest.ensures ∙ ap (max c.loop-slot.greatest) value) c.loop-slot.invariant.told;
    }
