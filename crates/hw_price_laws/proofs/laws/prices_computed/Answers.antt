use Rattle.hw_price_laws.proofs.Tops.{computed}
use Rattle.hw_price_laws.proofs.laws.prices_computed.Goals as goal

pub returns : goal.returns
returns c = computed
