use Rattle.std.proofs.Common.{◌-◌}
use Rattle.hw_desk.specs.Writers.{WriterState, Puts}
use Rattle.hw_flat_programme.specs.declared.format.Format.TheVariants.{Lp}
use Rattle.hw_flat_programme.specs.Rows.{value_terms}
use Rattle.hw_flat_programme.specs.Texts.{variables_text}
use Rattle.hw_flat_programme.proofs.terms.put_ship_names.Given as goal

-- whatever follows the names so far, beginning with those that are left
abbrev pub invariant-loop-slot : goal.invariant-loop-slot
invariant-loop-slot g l =
    let state = g.W.Writer.state in
    (end : WriterState) → Puts (variables_text (value_terms Lp l.flat l.ship l.slot (l.flat.slots - l.slot))) (state l.out) end → Puts (variables_text (value_terms Lp l.flat l.ship 0 l.flat.slots)) (state l.fn.out) end
