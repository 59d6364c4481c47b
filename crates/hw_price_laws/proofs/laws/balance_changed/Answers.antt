use Rattle.hw_price_laws.proofs.Changes.{changed}
use Rattle.hw_price_laws.proofs.laws.balance_changed.Goals as goal

pub returns : goal.returns
returns c = changed
