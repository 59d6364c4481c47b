use Rattle.std.proofs.Common.{drop}
use Rattle.hw_desk.specs.Writers.{WriterState, Puts}
use Rattle.hw_chart_flat.specs.Rows.{flat_wait_bars}
use Rattle.hw_chart_flat.proofs.bars.put_wait_bars.Given as goal

-- whatever follows the bars so far, beginning with those that are left
abbrev pub invariant-loop-rule : goal.invariant-loop-rule
invariant-loop-rule g l =
    let state = g.W.Writer.state in
    (end : WriterState) → Puts (flat_wait_bars l.table l.ship (drop l.rule-index l.rules)) (state l.out) end → Puts (flat_wait_bars l.table l.ship l.rules) (state l.fn.out) end
