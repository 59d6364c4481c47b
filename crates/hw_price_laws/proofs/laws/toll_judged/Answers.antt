use Rattle.hw_price_laws.proofs.Judging.{judged, judges}
use Rattle.hw_price_laws.proofs.laws.toll_judged.Goals as goal

pub returns : goal.returns
returns c = λ f toll. (judged f toll, judges f toll)
