use Rattle.std.proofs.Common.{◌≡◌, ◌++◌, map}
use Rattle.std.specs.List.{range_with_len}
use Rattle.hw_port_named.specs.declared.named.Named.TheVariants.{Window}
use Rattle.hw_port_named.proofs.naming.push_windows.Given as goal

abbrev pub invariant-loop-ship : goal.invariant-loop-ship
invariant-loop-ship l = l.list.items ≡ l.fn.list.items ++ map (λ v. Window v) (range_with_len 0 l.ship)
