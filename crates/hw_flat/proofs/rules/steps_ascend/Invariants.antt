use Rattle.std.proofs.Common.{◌≡◌, drop}
use Rattle.hw_flat.specs.TextForms.{steps_ascend_from}
use Rattle.hw_flat.proofs.rules.steps_ascend.Given as goal

abbrev pub invariant-loop-step : goal.invariant-loop-step
invariant-loop-step l = steps_ascend_from l.least (drop l.step-index l.steps) ≡ steps_ascend_from 1 l.steps
