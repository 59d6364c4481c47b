use Rattle.std.proofs.Common.{◌≡◌, drop}
use Rattle.hw_flat.specs.TextForms.{ascend_from}
use Rattle.hw_flat.proofs.rules.ascend.Given as goal

abbrev pub invariant-loop-job : goal.invariant-loop-job
invariant-loop-job l = ascend_from l.least (drop l.job-index l.jobs) ≡ ascend_from 0 l.jobs
