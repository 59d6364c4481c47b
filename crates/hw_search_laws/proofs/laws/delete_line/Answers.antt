use Rattle.hw_search_laws.proofs.Turned.{delete}
use Rattle.hw_search_laws.proofs.laws.delete_line.Goals as goal

pub returns : goal.returns
returns c = delete
