use Rattle.std.proofs.Common.{◌≡◌, ◌++◌, map, take, drop}
use Rattle.hw_plan_texts.specs.Fleets.{lessened_step}
use Rattle.hw_plan_texts.proofs.rules.lessened_steps.Given as goal

abbrev pub invariant-loop-step : goal.invariant-loop-step
invariant-loop-step l = l.step-items ≡ map (lessened_step l.withdrawn) (take l.step-index l.initial.step-items) ++ drop l.step-index l.initial.step-items
