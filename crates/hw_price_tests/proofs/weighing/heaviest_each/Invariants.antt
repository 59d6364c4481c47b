use Rattle.std.proofs.Common.{◌≡◌, ℕ, ◌+◌, ◌<◌, ◌≤◌, length, get_or, drop}
use Rattle.hw_price_laws.specs.Tolls.{heaviest}
use Rattle.hw_price_tests.proofs.weighing.heaviest_each.Given as goal

abbrev pub invariant-loop-left : goal.invariant-loop-left
invariant-loop-left l = record {
  within : l.left ≤ length l.jobs;
  long : length l.most.items ≡ l.tugs + 1;
  told : (k : ℕ) → k < l.tugs + 1 → get_or l.most.items k 0 ≡ heaviest (drop l.left l.weights) (drop l.left l.jobs) k;
}

abbrev pub decreases-loop-left : goal.decreases-loop-left
decreases-loop-left l = l.left
