use Rattle.hw_search_laws.proofs.Choices.{branch_open}
use Rattle.hw_search_laws.proofs.laws.branch_open.Goals as goal

pub returns : goal.returns
returns c = branch_open
