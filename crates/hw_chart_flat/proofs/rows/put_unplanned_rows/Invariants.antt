use Rattle.std.proofs.Common.{◌-◌}
use Rattle.hw_desk.specs.Writers.{WriterState, Puts}
use Rattle.hw_chart_flat.specs.Rows.{unplanned_rows}
use Rattle.hw_chart_flat.proofs.rows.put_unplanned_rows.Given as goal

-- whatever follows the rows so far, beginning with those that are left
abbrev pub invariant-loop-ship : goal.invariant-loop-ship
invariant-loop-ship g l =
    let state = g.W.Writer.state in
    (end : WriterState) → Puts (unplanned_rows l.flat l.ship (l.flat.ships - l.ship)) (state l.out) end → Puts (unplanned_rows l.flat 0 l.flat.ships) (state l.fn.out) end
