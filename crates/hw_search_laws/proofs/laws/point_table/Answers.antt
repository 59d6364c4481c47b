use Rattle.hw_search_laws.proofs.Turned.{point_table}
use Rattle.hw_search_laws.proofs.laws.point_table.Goals as goal

pub returns : goal.returns
returns c = point_table
