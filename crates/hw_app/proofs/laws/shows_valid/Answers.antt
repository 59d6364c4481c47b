use Rattle.hw_app.proofs.Owned.{shows_valid}
use Rattle.hw_app.proofs.laws.shows_valid.Goals as goal

pub returns : goal.returns
returns c = shows_valid
