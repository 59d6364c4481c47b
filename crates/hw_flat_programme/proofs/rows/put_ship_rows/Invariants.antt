use Rattle.std.proofs.Common.{◌-◌}
use Rattle.hw_desk.specs.Writers.{WriterState, Puts}
use Rattle.hw_flat_programme.specs.Rows.{ship_rows}
use Rattle.hw_flat_programme.specs.Texts.{rows_text}
use Rattle.hw_flat_programme.proofs.rows.put_ship_rows.Given as goal

-- whatever follows the rows so far, beginning with those that are left
abbrev pub invariant-loop-ship : goal.invariant-loop-ship
invariant-loop-ship g l =
    let state = g.W.Writer.state in
    (end : WriterState) → Puts (rows_text l.format l.flat.slots (ship_rows l.flat l.ship (l.flat.ships - l.ship))) (state l.out) end → Puts (rows_text l.format l.flat.slots (ship_rows l.flat 0 l.flat.ships)) (state l.fn.out) end
