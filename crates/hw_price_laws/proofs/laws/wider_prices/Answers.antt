use Rattle.hw_price_laws.proofs.Wider.{wider}
use Rattle.hw_price_laws.proofs.laws.wider_prices.Goals as goal

pub returns : goal.returns
returns c = wider
