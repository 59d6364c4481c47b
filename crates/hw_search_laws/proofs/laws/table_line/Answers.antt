use Rattle.hw_search_laws.proofs.Turned.{table}
use Rattle.hw_search_laws.proofs.laws.table_line.Goals as goal

pub returns : goal.returns
returns c = table
