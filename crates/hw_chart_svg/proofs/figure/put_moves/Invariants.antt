use Rattle.std.proofs.Common.{◌-◌}
use Rattle.hw_desk.specs.Writers.{WriterState, Puts}
use Rattle.hw_chart_svg.specs.Figures.{moves}
use Rattle.hw_chart_svg.proofs.figure.put_moves.Given as goal

-- whatever follows the steps so far, beginning with those of the slots that are left
abbrev pub invariant-loop-slot : goal.invariant-loop-slot
invariant-loop-slot g l =
    let state = g.W.Writer.state in
    let level = g.L.Levels.level l.levels in
    (end : WriterState) → Puts (moves level l.slot (l.end - l.slot)) (state l.out) end → Puts (moves level l.first (l.end - l.first)) (state l.fn.out) end
