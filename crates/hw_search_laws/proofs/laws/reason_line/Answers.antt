use Rattle.hw_search_laws.proofs.Turned.{reason}
use Rattle.hw_search_laws.proofs.laws.reason_line.Goals as goal

pub returns : goal.returns
returns c = reason
