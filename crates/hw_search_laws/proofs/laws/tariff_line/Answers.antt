use Rattle.hw_search_laws.proofs.Tolled.{tariff}
use Rattle.hw_search_laws.proofs.laws.tariff_line.Goals as goal

pub returns : goal.returns
returns c = tariff
