use Rattle.hw_search_laws.proofs.Trues.{ended}
use Rattle.hw_search_laws.proofs.laws.end_means.Goals as goal

pub returns : goal.returns
returns c = ended
