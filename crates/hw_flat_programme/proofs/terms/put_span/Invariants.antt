use Rattle.std.proofs.Common.{◌-◌}
use Rattle.hw_desk.specs.Writers.{WriterState, Puts}
use Rattle.hw_flat_programme.specs.Rows.{span_terms, terms_from}
use Rattle.hw_flat_programme.specs.Texts.{terms_text}
use Rattle.hw_flat_programme.proofs.terms.put_span.Given as goal

-- whatever follows the terms so far, beginning with those that are left
abbrev pub invariant-loop-slot : goal.invariant-loop-slot
invariant-loop-slot g l =
    let state = g.W.Writer.state in
    (end : WriterState) → Puts (terms_text l.flat.slots l.mark (terms_from l.flat l.span.weight l.span.ship l.slot (l.span.to - l.slot))) (state l.out) end → Puts (terms_text l.flat.slots l.mark (span_terms l.flat l.span)) (state l.fn.out) end
