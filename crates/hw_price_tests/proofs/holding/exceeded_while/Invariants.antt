use Rattle.std.proofs.Common.{ℕ, ◌<◌, get_or}
use Rattle.hw_model.specs.declared.rule.Step.{Step}
use Rattle.hw_price_tests.specs.Asked.{ExceedsIn, HoldsIn}
use Rattle.hw_price_tests.proofs.holding.exceeded_while.Given as goal

abbrev pub invariant-loop-step : goal.invariant-loop-step
invariant-loop-step l = (k : ℕ) (d : Step) → k < l.step-index → HoldsIn l.room l.job (get_or l.later k d).from → ExceedsIn l.flat l.room (get_or l.later k d).fleet l.jobs (get_or l.later k d).from → ⊥
