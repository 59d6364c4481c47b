use Rattle.hw_price_laws.proofs.Sound.{rising}
use Rattle.hw_price_laws.proofs.laws.rising_prices.Goals as goal

pub returns : goal.returns
returns c = rising
