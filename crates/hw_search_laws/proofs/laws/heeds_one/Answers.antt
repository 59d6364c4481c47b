use Rattle.hw_search_laws.proofs.Heeded.{heeds_one}
use Rattle.hw_search_laws.proofs.laws.heeds_one.Goals as goal

pub returns : goal.returns
returns c = heeds_one
