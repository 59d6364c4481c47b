use Rattle.std.proofs.Common.{◌≡◌, ◌++◌, drop}
use Rattle.hw_port_named.specs.Restrictions.{named_from}
use Rattle.hw_port_named.proofs.naming.push_pairs.Given as goal

abbrev pub invariant-loop-v : goal.invariant-loop-v
invariant-loop-v l = l.list.items ++ named_from l.parts l.v (drop l.v l.ships) ≡ l.fn.list.items ++ named_from l.parts 0 l.ships
