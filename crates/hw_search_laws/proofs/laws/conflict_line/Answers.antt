use Rattle.hw_search_laws.proofs.Turned.{conflict}
use Rattle.hw_search_laws.proofs.laws.conflict_line.Goals as goal

pub returns : goal.returns
returns c = conflict
