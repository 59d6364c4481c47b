use Rattle.std.proofs.Common.{◌-◌}
use Rattle.hw_desk.specs.Writers.{WriterState, Puts}
use Rattle.hw_chart_port.specs.Closings.{closings_from}
use Rattle.hw_chart_port.proofs.closings.put_closings.Given as goal

-- whatever follows the runs so far, beginning with those of the slots that are left
abbrev pub invariant-loop-slot : goal.invariant-loop-slot
invariant-loop-slot g l =
    let state = g.W.Writer.state in
    let drawn = closings_from l.chart l.number l.window in
    (end : WriterState) → Puts (drawn l.slot (l.window.end - l.slot)) (state l.out) end → Puts (drawn l.window.first (l.window.end - l.window.first)) (state l.fn.out) end
