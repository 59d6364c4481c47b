use Rattle.std.proofs.Common.{◌≡◌, ◌+◌, ◌<◌, ◌≤◌, ℕ, length, get_or}
use Rattle.hw_repair.specs.Wishes.{held_from}
use Rattle.hw_audit.proofs.tugs.take_away.Given as goal

abbrev pub invariant-loop-k : goal.invariant-loop-k
invariant-loop-k l = record {
  size : length l.held.items ≡ length l.fn.held.items;
  done : (k : ℕ) → k < l.k → k < length l.fn.held.items → get_or l.held.items k 0 + held_from l.slot k l.job ≡ get_or l.fn.held.items k 0;
  rest : (k : ℕ) → l.k ≤ k → get_or l.held.items k 0 ≡ get_or l.fn.held.items k 0;
}
