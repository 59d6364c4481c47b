use Rattle.std.proofs.Common.{◌≤◌}
use Rattle.hw_desk.specs.Writers.{WriterState, Puts}
use Rattle.hw_chart_waters.proofs.Onward.{labels_left}
use Rattle.hw_chart_waters.proofs.waters.put_waters.Given as goal

-- whatever follows the labels so far, beginning with those of the rows that are left
abbrev pub invariant-loop-row : goal.invariant-loop-row
invariant-loop-row g l =
    let state = g.W.Writer.state in
    let drawn = labels_left l.column l.kind l.y in
    (l.free ≤ 2_000) × ((end : WriterState) → Puts (drawn l.free l.row) (state l.out) end → Puts (drawn 172 0) (state l.fn.out) end)
