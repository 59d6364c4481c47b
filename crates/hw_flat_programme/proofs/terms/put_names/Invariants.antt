use Rattle.std.proofs.Common.{◌-◌}
use Rattle.hw_desk.specs.Writers.{WriterState, Puts}
use Rattle.hw_flat_programme.specs.declared.format.Format.TheVariants.{Lp}
use Rattle.hw_flat_programme.specs.Rows.{ships_terms}
use Rattle.hw_flat_programme.specs.Texts.{variables_text}
use Rattle.hw_flat_programme.proofs.terms.put_names.Given as goal

-- whatever follows the names so far, beginning with those that are left
abbrev pub invariant-loop-ship : goal.invariant-loop-ship
invariant-loop-ship g l =
    let state = g.W.Writer.state in
    (end : WriterState) → Puts (variables_text (ships_terms Lp l.flat l.ship (l.flat.ships - l.ship))) (state l.out) end → Puts (variables_text (ships_terms Lp l.flat 0 l.flat.ships)) (state l.fn.out) end
