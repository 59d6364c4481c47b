use Rattle.hw_search_laws.proofs.LubyFirst.{first_lubys}
use Rattle.hw_search_laws.proofs.laws.first_lubys.Goals as goal

pub returns : goal.returns
returns c = first_lubys
