use Rattle.std.proofs.Common.{◌≡◌}
use Rattle.hw_flat.specs.Demonstration.{and_then, in_turn, from_to, value_drawn}
use Rattle.hw_flat.proofs.demo.put_row.Given as goal

abbrev pub invariant-loop-slot : goal.invariant-loop-slot
invariant-loop-slot l = and_then (l.values.items, l.words) (in_turn (value_drawn l.tpc) (from_to l.slot l.slots)) ≡ and_then (l.fn.values.items, l.initial.words) (in_turn (value_drawn l.tpc) (from_to (0) l.slots))
