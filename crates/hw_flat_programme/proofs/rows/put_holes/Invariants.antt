use Rattle.std.proofs.Common.{drop}
use Rattle.hw_desk.specs.Writers.{WriterState, Puts}
use Rattle.hw_flat_programme.specs.Rows.{hole_rows}
use Rattle.hw_flat_programme.specs.Texts.{rows_text}
use Rattle.hw_flat_programme.proofs.rows.put_holes.Given as goal

-- whatever follows the rows so far, beginning with those that are left
abbrev pub invariant-loop-hole : goal.invariant-loop-hole
invariant-loop-hole g l =
    let state = g.W.Writer.state in
    (end : WriterState) → Puts (rows_text l.format l.apart.slots (hole_rows l.apart l.v l.w (drop l.hole-index l.holes))) (state l.out) end → Puts (rows_text l.format l.apart.slots (hole_rows l.apart l.v l.w l.holes)) (state l.fn.out) end
