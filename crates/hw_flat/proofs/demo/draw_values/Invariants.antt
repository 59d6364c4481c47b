use Rattle.std.proofs.Common.{◌≡◌, []}
use Rattle.hw_flat.specs.Demonstration.{and_then, in_turn, from_to, row_drawn}
use Rattle.hw_flat.proofs.demo.draw_values.Given as goal

abbrev pub invariant-loop-ship : goal.invariant-loop-ship
invariant-loop-ship l = and_then (l.values.items, l.words) (in_turn (row_drawn l.slots) (from_to l.ship l.ships)) ≡ and_then ([], l.fn.words) (in_turn (row_drawn l.slots) (from_to (0) l.ships))
