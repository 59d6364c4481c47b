use Rattle.std.proofs.Common.{◌≡◌, ◌++◌, map, drop, decimal}
use Rattle.hw_flat.specs.TextWritten.{led}
use Rattle.hw_port_named.proofs.writing.put_numbers.Given as goal

abbrev pub invariant-loop-number : goal.invariant-loop-number
invariant-loop-number l = l.out.items ++ led (map decimal (drop l.number-index l.numbers)) ≡ l.fn.out.items ++ led (map decimal l.numbers)
