use Rattle.hw_lits.proofs.SaidRooms.{Said}
use Rattle.hw_lits.proofs.spelling.lits_of.Given as goal

abbrev pub invariant-loop-ship : goal.invariant-loop-ship
invariant-loop-ship l = Said l.room l.ship l.ship 0 0 (0, l.ship, 0) l.out.items

abbrev pub invariant-loop-w : goal.invariant-loop-w
invariant-loop-w l = Said l.room l.room.ships l.room.ships l.v l.w (1, l.v, l.w) l.out.items

abbrev pub invariant-loop-v : goal.invariant-loop-v
invariant-loop-v l = Said l.room l.room.ships l.room.ships l.v 0 (1, l.v, 0) l.out.items
