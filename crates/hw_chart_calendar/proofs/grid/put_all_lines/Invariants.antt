use Rattle.std.proofs.Common.{◌-◌}
use Rattle.hw_desk.specs.Writers.{WriterState, Puts}
use Rattle.hw_chart_calendar.specs.Calendars.{dated_lines}
use Rattle.hw_chart_calendar.proofs.grid.put_all_lines.Given as goal

-- whatever follows the marks so far, beginning with those that are left
abbrev pub invariant-loop-mark : goal.invariant-loop-mark
invariant-loop-mark g l =
    let state = g.W.Writer.state in
    let drawn = dated_lines l.start l.axis in
    (end : WriterState) → Puts (drawn l.mark (l.end - l.mark)) (state l.out) end → Puts (drawn l.first (l.end - l.first)) (state l.fn.out) end
