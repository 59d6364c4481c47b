use Rattle.hw_port_named.proofs.Numbers.{named_by_rule}
use Rattle.hw_port_named.proofs.laws.named_by_rule.Goals as goal

pub returns : goal.returns
returns c = named_by_rule
