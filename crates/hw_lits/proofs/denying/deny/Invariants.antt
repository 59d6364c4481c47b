use Rattle.hw_flat.specs.Opened.{shape_in}
use Rattle.hw_lits.proofs.Denials.{IsDenyingAt}
use Rattle.hw_lits.proofs.denying.deny.Given as goal

abbrev pub invariant-loop-lit : goal.invariant-loop-lit
invariant-loop-lit l = IsDenyingAt (shape_in l.fn.room) l.clause l.lit-index l.room
