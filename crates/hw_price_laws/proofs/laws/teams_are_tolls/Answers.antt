use Rattle.hw_price_laws.proofs.Kept.{teams}
use Rattle.hw_price_laws.proofs.laws.teams_are_tolls.Goals as goal

pub returns : goal.returns
returns c = teams
