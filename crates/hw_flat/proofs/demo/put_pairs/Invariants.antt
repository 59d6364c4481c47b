use Rattle.std.proofs.Common.{◌≡◌}
use Rattle.hw_flat.specs.Demonstration.{and_then, in_turn, from_to, pairs_of_drawn}
use Rattle.hw_flat.proofs.demo.put_pairs.Given as goal

abbrev pub invariant-loop-v : goal.invariant-loop-v
invariant-loop-v l = and_then (l.rules.items, l.words) (in_turn (pairs_of_drawn l.ships) (from_to l.v l.ships)) ≡ and_then (l.fn.rules.items, l.fn.words) (in_turn (pairs_of_drawn l.ships) (from_to (0) l.ships))
