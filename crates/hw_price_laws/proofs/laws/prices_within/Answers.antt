use Rattle.hw_price_laws.proofs.Sound.{within}
use Rattle.hw_price_laws.proofs.laws.prices_within.Goals as goal

pub returns : goal.returns
returns c = within
