use Rattle.hw_search_laws.proofs.Priced.{priced}
use Rattle.hw_search_laws.proofs.laws.priced_line.Goals as goal

pub returns : goal.returns
returns c = priced
