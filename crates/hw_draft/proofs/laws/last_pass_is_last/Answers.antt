use Rattle.hw_draft.proofs.LastPasses.{last_pass_law}
use Rattle.hw_draft.proofs.laws.last_pass_is_last.Goals as goal

pub returns : goal.returns
returns c = last_pass_law
