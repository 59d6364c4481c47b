use Rattle.std.proofs.Common.{◌≡◌, ◌++◌, drop, map}
use Rattle.hw_port_named.specs.Restrictions.{after_named}
use Rattle.hw_port_named.proofs.naming.push_after.Given as goal

abbrev pub invariant-loop-pair : goal.invariant-loop-pair
invariant-loop-pair l = l.list.items ++ map after_named (drop l.pair-index l.pairs) ≡ l.fn.list.items ++ map after_named l.pairs
