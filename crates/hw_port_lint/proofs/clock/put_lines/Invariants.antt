use Rattle.std.proofs.Common.{◌≡◌, ◌++◌, length}
use Rattle.hw_port_lint.specs.Clocks.{clock_from, clock_line_hints}
use Rattle.hw_port_lint.proofs.clock.put_lines.Given as goal

abbrev pub invariant-loop-line : goal.invariant-loop-line
invariant-loop-line l = l.out.items ++ clock_from l.minutes l.seen l.lines ≡ l.fn.out.items ++ clock_line_hints l.minutes l.table

abbrev pub decreases-loop-line : goal.decreases-loop-line
decreases-loop-line l = length l.lines
