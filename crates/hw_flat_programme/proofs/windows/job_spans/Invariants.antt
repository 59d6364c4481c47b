use Rattle.std.proofs.Common.{◌≡◌, take}
use Rattle.hw_flat_programme.specs.Rows.{job_spans}
use Rattle.hw_flat_programme.proofs.windows.job_spans.Given as goal

-- the spans of the jobs so far
abbrev pub invariant-loop-job : goal.invariant-loop-job
invariant-loop-job l =
    l.spans ≡ job_spans (take l.job-index l.jobs) l.slot
