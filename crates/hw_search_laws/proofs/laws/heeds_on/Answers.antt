use Rattle.hw_search_laws.proofs.Heeded.{heeds_on}
use Rattle.hw_search_laws.proofs.laws.heeds_on.Goals as goal

pub returns : goal.returns
returns c = heeds_on
