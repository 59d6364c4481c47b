use Rattle.std.proofs.Common.{◌-◌}
use Rattle.hw_desk.specs.Writers.{WriterState, Puts}
use Rattle.hw_chart_flat.specs.Rows.{planned_rows}
use Rattle.hw_chart_flat.proofs.rows.put_planned_rows.Given as goal

-- whatever follows the rows so far, beginning with those that are left
abbrev pub invariant-loop-ship : goal.invariant-loop-ship
invariant-loop-ship g l =
    let state = g.W.Writer.state in
    (end : WriterState) → Puts (planned_rows l.flat l.plan.table l.ship (l.flat.ships - l.ship)) (state l.out) end → Puts (planned_rows l.flat l.plan.table 0 l.flat.ships) (state l.fn.out) end
