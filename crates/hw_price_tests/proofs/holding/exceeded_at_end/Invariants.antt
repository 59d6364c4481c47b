use Rattle.std.proofs.Common.{ℕ, ◌<◌, get_or}
use Rattle.hw_model.specs.declared.rule.Job.{Job}
use Rattle.hw_model.specs.Rooms.{high_of}
use Rattle.hw_model.specs.Rules.{fleet_in}
use Rattle.hw_price_tests.specs.Asked.{ExceedsIn, HoldsSomewhere}
use Rattle.hw_price_tests.proofs.holding.exceeded_at_end.Given as goal

abbrev pub invariant-loop-job : goal.invariant-loop-job
invariant-loop-job l = record {
  at_last : ExceedsIn l.flat l.room (fleet_in l.fleet l.later l.last) l.jobs l.last → ⊥;
  before : ExceedsIn l.flat l.room (fleet_in l.fleet l.later l.asked) l.jobs l.asked → ⊥;
  none : (k : ℕ) (d : Job) → k < l.job-index → HoldsSomewhere l.room (get_or l.jobs k d) → ExceedsIn l.flat l.room (fleet_in l.fleet l.later (high_of l.room (get_or l.jobs k d).ship)) l.jobs (high_of l.room (get_or l.jobs k d).ship) → ⊥;
}
