use Rattle.hw_search_laws.proofs.Provings.{proving}
use Rattle.hw_search_laws.proofs.laws.proving_meets.Goals as goal

pub returns : goal.returns
returns c = proving
