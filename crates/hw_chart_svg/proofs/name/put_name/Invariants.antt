use Rattle.std.proofs.Common.{drop}
use Rattle.hw_desk.specs.Writers.{WriterState, Puts}
use Rattle.hw_chart_svg.specs.Names.{escaped}
use Rattle.hw_chart_svg.proofs.name.put_name.Given as goal

-- whatever follows the bytes so far, beginning with those that are left
abbrev pub invariant-loop-byte : goal.invariant-loop-byte
invariant-loop-byte g l =
    let state = g.W.Writer.state in
    (end : WriterState) → Puts (escaped (drop l.byte-index l.name)) (state l.out) end → Puts (escaped l.name) (state l.fn.out) end
