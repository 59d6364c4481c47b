use Rattle.std.proofs.Common.{◌≡◌, ℕ, ◌+◌, ◌<◌, take, length, get_or, sum_by}
use Rattle.hw_audit.specs.Keeping.{held_at}
use Rattle.hw_audit.proofs.tugs.move_job.Given as goal

abbrev pub invariant-loop-job : goal.invariant-loop-job
invariant-loop-job l = record {
  size : length l.held.items ≡ length l.fn.held.items;
  told : (k : ℕ) → k < length l.fn.held.items → get_or l.held.items k 0 + sum_by (held_at l.ship l.old k) (take l.job-index l.jobs) ≡ get_or l.fn.held.items k 0 + sum_by (held_at l.ship l.slot k) (take l.job-index l.jobs);
}
