use Rattle.hw_search_laws.proofs.Turned.{starts}
use Rattle.hw_search_laws.proofs.laws.new_search.Goals as goal

pub returns : goal.returns
returns c = starts
