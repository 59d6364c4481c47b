use Rattle.std.proofs.Common.{◌-◌}
use Rattle.hw_desk.specs.Writers.{WriterState, Puts}
use Rattle.hw_chart.specs.Grids.{line_paths}
use Rattle.hw_chart.proofs.grid.put_line_paths.Given as goal

-- whatever follows the marks so far, beginning with those that are left
abbrev pub invariant-loop-i : goal.invariant-loop-i
invariant-loop-i g l =
    let state = g.W.Writer.state in
    (end : WriterState) → Puts (line_paths l.axis l.i (l.count - l.i)) (state l.out) end → Puts (line_paths l.axis 0 l.count) (state l.fn.out) end
