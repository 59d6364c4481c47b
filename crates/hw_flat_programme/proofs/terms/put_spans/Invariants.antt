use Rattle.std.proofs.Common.{drop}
use Rattle.hw_desk.specs.Writers.{WriterState, Puts}
use Rattle.hw_flat_programme.specs.Rows.{terms_of}
use Rattle.hw_flat_programme.specs.Texts.{terms_text}
use Rattle.hw_flat_programme.proofs.terms.put_spans.Given as goal

-- whatever follows the terms so far, beginning with those that are left
abbrev pub invariant-loop-span : goal.invariant-loop-span
invariant-loop-span g l =
    let state = g.W.Writer.state in
    (end : WriterState) → Puts (terms_text l.flat.slots l.mark (terms_of l.flat (drop l.span-index l.spans))) (state l.out) end → Puts (terms_text l.flat.slots l.mark (terms_of l.flat l.spans)) (state l.fn.out) end
