use Rattle.hw_port_named.proofs.Numbers.{each_is_named}
use Rattle.hw_port_named.proofs.laws.each_is_named.Goals as goal

pub returns : goal.returns
returns c = each_is_named
