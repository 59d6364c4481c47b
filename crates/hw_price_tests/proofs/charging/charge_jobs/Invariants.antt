use Rattle.std.proofs.Common.{◌≡◌, ℕ, ◌+◌, ◌*◌, if◌then◌else◌, drop, sum_by, get_or}
use Rattle.hw_price_laws.specs.Tolls.{job_charges, lies_in}
use Rattle.hw_price_laws.specs.Computed.{takes}
use Rattle.hw_price_tests.proofs.charging.charge_jobs.Given as goal

abbrev pub invariant-loop-place : goal.invariant-loop-place
invariant-loop-place l = (k : ℕ) → get_or l.costs k 0 + (if lies_in l.span.range.low l.span.range.high k then l.span.price * sum_by (takes l.span.range.ship k) (job_charges l.busy (drop l.place l.weights) (drop l.place l.jobs)) else 0) ≡ get_or l.initial.costs k 0 + (if lies_in l.span.range.low l.span.range.high k then l.span.price * sum_by (takes l.span.range.ship k) (job_charges l.busy l.weights l.jobs) else 0)
