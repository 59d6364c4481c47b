use Rattle.std.proofs.Common.{◌≡◌, ◌+◌}
use Rattle.hw_flat.specs.Demonstration.{and_then, in_turn, from_to, pair_drawn}
use Rattle.hw_flat.proofs.demo.put_pairs_of.Given as goal

abbrev pub invariant-loop-w : goal.invariant-loop-w
invariant-loop-w l = and_then (l.rules.items, l.words) (in_turn (pair_drawn l.v) (from_to l.w l.ships)) ≡ and_then (l.fn.rules.items, l.fn.words) (in_turn (pair_drawn l.v) (from_to (l.v + 1) l.ships))
