use Rattle.hw_draft.proofs.Limits.{limits_law}
use Rattle.hw_draft.proofs.laws.some_pass_limits.Goals as goal

pub returns : goal.returns
returns c = limits_law
