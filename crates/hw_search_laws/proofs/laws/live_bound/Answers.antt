use Rattle.hw_search_laws.proofs.Bounds.{live_few}
use Rattle.hw_search_laws.proofs.laws.live_bound.Goals as goal

pub returns : goal.returns
returns c = live_few
