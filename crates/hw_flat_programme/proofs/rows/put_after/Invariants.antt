use Rattle.std.proofs.Common.{◌-◌}
use Rattle.hw_desk.specs.Writers.{WriterState, Puts}
use Rattle.hw_flat_programme.specs.Rows.{after_rows, after_spans, numbered_rows}
use Rattle.hw_flat_programme.specs.Texts.{rows_text}
use Rattle.hw_flat_programme.proofs.rows.put_after.Given as goal

-- whatever follows the rows so far, beginning with those that are left
abbrev pub invariant-loop-slot : goal.invariant-loop-slot
invariant-loop-slot g l =
    let state = g.W.Writer.state in
    (end : WriterState) → Puts (rows_text l.format l.flat.slots (numbered_rows l.flat (λ k. 1) (after_spans l.flat l.v l.w l.gap) l.slot (l.flat.slots - l.slot))) (state l.out) end → Puts (rows_text l.format l.flat.slots (after_rows l.flat l.v l.w l.gap)) (state l.fn.out) end
