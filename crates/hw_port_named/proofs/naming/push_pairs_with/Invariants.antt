use Rattle.std.proofs.Common.{◌≡◌, ◌++◌, ◌+◌, drop}
use Rattle.hw_port_named.specs.Restrictions.{named_with}
use Rattle.hw_port_named.proofs.naming.push_pairs_with.Given as goal

abbrev pub invariant-loop-i : goal.invariant-loop-i
invariant-loop-i l = l.list.items ++ named_with l.parts l.v l.ship (l.first + l.i) (drop l.i l.rest) ≡ l.fn.list.items ++ named_with l.parts l.v l.ship l.first l.rest
