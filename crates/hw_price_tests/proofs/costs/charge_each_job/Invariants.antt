use Rattle.std.proofs.Common.{◌≡◌, ℕ, ◌+◌, ◌*◌, [], drop, sum_by, length, get_or}
use Rattle.hw_price_laws.specs.Tolls.{job_charges}
use Rattle.hw_price_laws.specs.Computed.{takes}
use Rattle.hw_price_tests.specs.Charging.{cost_at}
use Rattle.hw_price_tests.proofs.costs.charge_each_job.Given as goal

abbrev pub invariant-loop-place : goal.invariant-loop-place
invariant-loop-place l = record {
  each_slot : (ship : ℕ) → length (get_or l.rows ship []) ≡ length (get_or l.initial.rows ship []);
  told : (ship slot : ℕ) → cost_at l.rows ship slot + l.price * sum_by (takes ship slot) (job_charges l.busy (drop l.place l.weights) (drop l.place l.jobs)) ≡ cost_at l.initial.rows ship slot + l.price * sum_by (takes ship slot) (job_charges l.busy l.weights l.jobs);
}
