use Rattle.std.proofs.Common.{◌+◌, ◌-◌}
use Rattle.hw_desk.specs.Writers.{WriterState, Puts}
use Rattle.hw_model.specs.Problem.{horizon}
use Rattle.hw_flat_programme.specs.Rows.{numbered_rows, width, window_rows, group_spans}
use Rattle.hw_flat_programme.specs.Texts.{rows_text}
use Rattle.hw_flat_programme.proofs.rows.put_hole.Given as goal

-- whatever follows the rows so far, beginning with those that are left
abbrev pub invariant-loop-last : goal.invariant-loop-last
invariant-loop-last g l =
    let state = g.W.Writer.state in
    (end : WriterState) → Puts (rows_text l.format l.apart.slots (numbered_rows l.apart (λ k. 1) (group_spans l.apart l.v l.w l.hole) l.last (horizon l.apart + width l.hole - 1 - l.last))) (state l.out) end → Puts (rows_text l.format l.apart.slots (window_rows l.apart l.v l.w l.hole)) (state l.fn.out) end
