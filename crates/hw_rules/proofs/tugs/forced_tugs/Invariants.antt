use Rattle.std.proofs.Common.{◌≡◌, ◌+◌, ◌*◌, ◌≤◌, drop, sum_by}
use Rattle.hw_model.specs.Refuting.{forced_by}
use Rattle.hw_rules.proofs.tugs.forced_tugs.Given as goal

abbrev pub invariant-loop-job : goal.invariant-loop-job
invariant-loop-job l = record {
  small : l.sum ≤ 64 * l.job-index;
  told : l.sum + sum_by (forced_by l.room l.slot) (drop l.job-index l.jobs) ≡ sum_by (forced_by l.room l.slot) l.jobs;
}
