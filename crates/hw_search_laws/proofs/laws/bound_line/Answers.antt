use Rattle.hw_search_laws.proofs.Tolled.{bound}
use Rattle.hw_search_laws.proofs.laws.bound_line.Goals as goal

pub returns : goal.returns
returns c = bound
