use Rattle.hw_price_tests.proofs.Stays.{charged_stays}
use Rattle.hw_price_tests.proofs.laws.charged_stays.Goals as goal

pub returns : goal.returns
returns c = charged_stays
