use Rattle.std.proofs.Common.{◌-◌}
use Rattle.hw_desk.specs.Writers.{WriterState, Puts}
use Rattle.hw_chart.specs.Grids.{marks}
use Rattle.hw_chart.proofs.grid.put_marks.Given as goal

-- whatever follows the marks so far, beginning with those that are left
abbrev pub invariant-loop-i : goal.invariant-loop-i
invariant-loop-i g l =
    let state = g.W.Writer.state in
    (end : WriterState) → Puts (marks l.axis l.i (l.count - l.i)) (state l.out) end → Puts (marks l.axis 0 l.count) (state l.fn.out) end
