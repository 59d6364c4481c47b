use Rattle.hw_price_laws.proofs.More.{more_tolls}
use Rattle.hw_price_laws.proofs.laws.more_tolls.Goals as goal

pub returns : goal.returns
returns c = more_tolls
