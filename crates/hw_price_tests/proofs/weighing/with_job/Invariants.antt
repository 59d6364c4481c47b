use Rattle.std.proofs.Common.{◌≡◌, ℕ, ◌<◌, length, get_or}
use Rattle.hw_price_tests.specs.Weighing.{heaviest_with}
use Rattle.hw_price_tests.proofs.weighing.with_job.Given as goal

abbrev pub invariant-loop-k : goal.invariant-loop-k
invariant-loop-k l = record {
  long : length l.next.items ≡ l.k;
  told : (j : ℕ) → j < l.k → get_or l.next.items j 0 ≡ heaviest_with l.weight l.tugs l.most j;
}
