use Rattle.std.proofs.Common.{◌≡◌, ◌++◌, drop}
use Rattle.hw_port_named.specs.Lines.{named_lines}
use Rattle.hw_port_named.proofs.writing.put_lines.Given as goal

abbrev pub invariant-loop-number : goal.invariant-loop-number
invariant-loop-number l = l.out.items ++ named_lines l.parts l.number (drop l.number l.list) ≡ l.fn.out.items ++ named_lines l.parts 0 l.list
