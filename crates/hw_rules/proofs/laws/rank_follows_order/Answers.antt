use Rattle.hw_rules.proofs.Order.{follows}
use Rattle.hw_rules.proofs.laws.rank_follows_order.Goals as goal

pub returns : goal.returns
returns c = follows
