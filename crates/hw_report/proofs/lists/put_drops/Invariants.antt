use Rattle.std.proofs.Common.{drop}
use Rattle.hw_desk.specs.Writers.{WriterState, Puts}
use Rattle.hw_report.specs.Lines.{reported_drop_lines}
use Rattle.hw_report.proofs.lists.put_drops.Given as goal

-- whatever follows the lines so far, beginning with those that are left
abbrev pub invariant-loop-i : goal.invariant-loop-i
invariant-loop-i g l =
    let state = g.W.Writer.state in
    (end : WriterState) → Puts (reported_drop_lines (drop l.i l.kept) (drop l.i l.drops)) (state l.out) end → Puts (reported_drop_lines l.kept l.drops) (state l.fn.out) end
