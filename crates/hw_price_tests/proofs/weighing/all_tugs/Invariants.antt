use Rattle.std.proofs.Common.{◌≡◌, ◌+◌, ◌*◌, ◌≤◌, drop, sum_by}
use Rattle.hw_price_tests.proofs.weighing.all_tugs.Given as goal

abbrev pub invariant-loop-job : goal.invariant-loop-job
invariant-loop-job l = record {
  told : l.sum + sum_by (λ job. job.tugs) (drop l.job-index l.jobs) ≡ sum_by (λ job. job.tugs) l.jobs;
  small : l.sum ≤ l.job-index * 4_294_967_295;
}
