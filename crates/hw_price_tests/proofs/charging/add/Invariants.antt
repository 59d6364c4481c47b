use Rattle.std.proofs.Common.{◌≡◌, ℕ, ◌+◌, ◌≤◌, max, ◌&&◌, nat_le, nat_lt, if◌then◌else◌, get_or}
use Rattle.hw_price_tests.proofs.charging.add.Given as goal

abbrev pub invariant-loop-k : goal.invariant-loop-k
invariant-loop-k l = record {
  upto : l.k ≤ max l.from l.to;
  told : (j : ℕ) → get_or l.costs j 0 ≡ get_or l.initial.costs j 0 + (if nat_le l.from j && nat_lt j l.k then l.amount else 0);
}
