use Rattle.hw_price_laws.proofs.Sound.{same_ranges}
use Rattle.hw_price_laws.proofs.laws.only_ranges.Goals as goal

pub returns : goal.returns
returns c = same_ranges
