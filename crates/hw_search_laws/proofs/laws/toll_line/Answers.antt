use Rattle.hw_search_laws.proofs.Tolled.{toll}
use Rattle.hw_search_laws.proofs.laws.toll_line.Goals as goal

pub returns : goal.returns
returns c = toll
