use Rattle.hw_search_laws.proofs.Stops.{stop_keeps}
use Rattle.hw_search_laws.proofs.laws.stop_kept.Goals as goal

pub returns : goal.returns
returns c = stop_keeps
