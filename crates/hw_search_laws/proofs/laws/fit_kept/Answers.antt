use Rattle.hw_search_laws.proofs.Turned.{fit_changes}
use Rattle.hw_search_laws.proofs.laws.fit_kept.Goals as goal

pub returns : goal.returns
returns c = fit_changes
