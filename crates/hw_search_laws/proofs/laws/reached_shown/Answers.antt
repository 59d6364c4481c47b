use Rattle.hw_search_laws.proofs.Closings.{reached_shown}
use Rattle.hw_search_laws.proofs.laws.reached_shown.Goals as goal

pub returns : goal.returns
returns c = reached_shown
