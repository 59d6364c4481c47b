use Rattle.hw_rules.proofs.Order.{once}
use Rattle.hw_rules.proofs.laws.each_list_once.Goals as goal

pub returns : goal.returns
returns c = once
