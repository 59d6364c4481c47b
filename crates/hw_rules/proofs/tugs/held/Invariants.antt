use Rattle.std.proofs.Common.{◌≡◌, ◌+◌, ◌*◌, ◌≤◌, drop, sum_by}
use Rattle.hw_model.specs.Rules.{held_by}
use Rattle.hw_rules.proofs.tugs.held.Given as goal

abbrev pub invariant-loop-job : goal.invariant-loop-job
invariant-loop-job l = record {
  small : l.sum ≤ 64 * l.job-index;
  told : l.sum + sum_by (held_by l.table l.slot) (drop l.job-index l.jobs) ≡ sum_by (held_by l.table l.slot) l.jobs;
}
