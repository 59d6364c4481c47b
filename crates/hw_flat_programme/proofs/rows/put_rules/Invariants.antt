use Rattle.std.proofs.Common.{drop}
use Rattle.hw_desk.specs.Writers.{WriterState, Puts}
use Rattle.hw_flat_programme.specs.Rows.{rules_rows}
use Rattle.hw_flat_programme.specs.Texts.{rows_text}
use Rattle.hw_flat_programme.proofs.rows.put_rules.Given as goal

-- whatever follows the rows so far, beginning with those that are left
abbrev pub invariant-loop-rule : goal.invariant-loop-rule
invariant-loop-rule g l =
    let state = g.W.Writer.state in
    (end : WriterState) → Puts (rows_text l.format l.apart.slots (rules_rows l.apart (drop l.rule-index l.rules))) (state l.out) end → Puts (rows_text l.format l.apart.slots (rules_rows l.apart l.rules)) (state l.fn.out) end
