use Rattle.hw_price_tests.proofs.Alone.{named_or_alone}
use Rattle.hw_price_tests.proofs.laws.named_or_alone.Goals as goal

pub returns : goal.returns
returns c = named_or_alone
