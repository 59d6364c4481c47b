use Rattle.std.proofs.Common.{◌-◌}
use Rattle.hw_desk.specs.Writers.{WriterState, Puts}
use Rattle.hw_flat_programme.specs.declared.format.Sense.TheVariants.{Exactly}
use Rattle.hw_flat_programme.specs.Rows.{value_terms}
use Rattle.hw_flat_programme.specs.Texts.{mark_of, terms_text}
use Rattle.hw_flat_programme.proofs.terms.put_values.Given as goal

-- whatever follows the terms so far, beginning with those that are left
abbrev pub invariant-loop-slot : goal.invariant-loop-slot
invariant-loop-slot g l =
    let state = g.W.Writer.state in
    (end : WriterState) → Puts (terms_text l.flat.slots (mark_of l.format Exactly) (value_terms l.format l.flat l.ship l.slot (l.flat.slots - l.slot))) (state l.out) end → Puts (terms_text l.flat.slots (mark_of l.format Exactly) (value_terms l.format l.flat l.ship 0 l.flat.slots)) (state l.fn.out) end
