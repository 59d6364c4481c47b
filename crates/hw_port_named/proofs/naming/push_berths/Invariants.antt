use Rattle.std.proofs.Common.{◌≡◌, ◌++◌, drop, map}
use Rattle.hw_port_named.specs.Restrictions.{berth_named}
use Rattle.hw_port_named.proofs.naming.push_berths.Given as goal

abbrev pub invariant-loop-pair : goal.invariant-loop-pair
invariant-loop-pair l = l.list.items ++ map berth_named (drop l.pair-index l.berths) ≡ l.fn.list.items ++ map berth_named l.berths
