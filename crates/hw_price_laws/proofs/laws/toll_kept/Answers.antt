use Rattle.hw_price_laws.proofs.Kept.{kept}
use Rattle.hw_price_laws.proofs.laws.toll_kept.Goals as goal

pub returns : goal.returns
returns c = kept
