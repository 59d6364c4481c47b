use Rattle.std.proofs.Common.{ℕ, ◌<◌, length, get_or}
use Rattle.hw_model.specs.declared.rule.Job.{Job}
use Rattle.hw_model.specs.declared.rule.Step.{Step}
use Rattle.hw_price_tests.specs.Asked.{ExceedsIn, HoldsIn}
use Rattle.hw_price_tests.proofs.holding.exceeded_at_step.Given as goal

abbrev pub invariant-loop-job : goal.invariant-loop-job
invariant-loop-job l = (k : ℕ) (d : Job) (i : ℕ) (e : Step) → k < l.job-index → i < length l.later → HoldsIn l.room (get_or l.jobs k d) (get_or l.later i e).from → ExceedsIn l.flat l.room (get_or l.later i e).fleet l.jobs (get_or l.later i e).from → ⊥
