use Rattle.hw_model.specs.Replay.{some_true, free_lits}
use Rattle.hw_model_laws.proofs.QuietSteps.{quiet_by, by_quiet}
use Rattle.hw_model_laws.proofs.laws.quiet_step.Goals as goal

pub returns : goal.returns
returns c = λ clause room. (quiet_by (some_true room clause) (free_lits room clause), by_quiet (some_true room clause) (free_lits room clause))
