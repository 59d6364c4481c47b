use Rattle.hw_price_laws.proofs.Sound.{sound}
use Rattle.hw_price_laws.proofs.laws.sound_prices.Goals as goal

pub returns : goal.returns
returns c = sound
