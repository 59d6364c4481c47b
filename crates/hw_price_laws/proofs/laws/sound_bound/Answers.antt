use Rattle.hw_price_laws.proofs.Sound.{bounded}
use Rattle.hw_price_laws.proofs.laws.sound_bound.Goals as goal

pub returns : goal.returns
returns c = bounded
