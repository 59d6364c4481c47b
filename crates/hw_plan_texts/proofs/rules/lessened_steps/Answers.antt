use Rattle.std.proofs.Common.{◌≡◌, ◌<◌, length, get_or, set, ap, ◌∙◌, arith, ◌-◌}
use Rattle.std.proofs.lemmas.List.{get_or_default}
use Rattle.std.proofs.lemmas.List.Edits.{map_over_more}
use Rattle.hw_model.specs.declared.rule.Step.{Step}
use Rattle.hw_plan_texts.specs.Fleets.{lessened_step}
use Rattle.hw_plan_texts.proofs.rules.lessened_steps.Goals as goal

pub loop-step-preserved : goal.loop-step-preserved
loop-step-preserved c =
    let none : Step = record { from = 0; fleet = 0 } in
    let steps = c.loop-step.step-items in
    let i = c.loop-step.step-index in
    let step : Step = get_or steps i none in
    let within : i < length steps = omega arith in
    let made = map_over_more (lessened_step c.args.withdrawn) c.deref_mut-step-items.result.now steps i step (omega arith) c.loop-step.invariant (get_or_default steps i none step within) in
    let fleet : c.saturating_sub.result ≡ step.fleet - c.args.withdrawn = omega arith in
    ap (λ n. set steps i (record { from = step.from; fleet = n })) fleet ∙ made
