use Rattle.hw_price_laws.proofs.Wider.{as_goal}
use Rattle.hw_price_laws.proofs.laws.without_dues.Goals as goal

pub returns : goal.returns
returns c = as_goal
