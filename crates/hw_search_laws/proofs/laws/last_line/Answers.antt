use Rattle.hw_search_laws.proofs.Closings.{last_good}
use Rattle.hw_search_laws.proofs.laws.last_line.Goals as goal

pub returns : goal.returns
returns c = last_good
