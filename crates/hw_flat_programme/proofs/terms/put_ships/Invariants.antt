use Rattle.std.proofs.Common.{◌-◌}
use Rattle.hw_desk.specs.Writers.{WriterState, Puts}
use Rattle.hw_flat_programme.specs.declared.format.Sense.TheVariants.{Exactly}
use Rattle.hw_flat_programme.specs.Rows.{ships_terms}
use Rattle.hw_flat_programme.specs.Texts.{mark_of, terms_text}
use Rattle.hw_flat_programme.proofs.terms.put_ships.Given as goal

-- whatever follows the terms so far, beginning with those that are left
abbrev pub invariant-loop-ship : goal.invariant-loop-ship
invariant-loop-ship g l =
    let state = g.W.Writer.state in
    (end : WriterState) → Puts (terms_text l.flat.slots (mark_of l.format Exactly) (ships_terms l.format l.flat l.ship (l.flat.ships - l.ship))) (state l.out) end → Puts (terms_text l.flat.slots (mark_of l.format Exactly) (ships_terms l.format l.flat 0 l.flat.ships)) (state l.fn.out) end
