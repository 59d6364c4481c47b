use Rattle.std.proofs.Common.{◌≡◌, ◌++◌, map, drop}
use Rattle.hw_flat.specs.TextWritten.{led, job_text}
use Rattle.hw_flat.proofs.writing.put_jobs.Given as goal

abbrev pub invariant-loop-job : goal.invariant-loop-job
invariant-loop-job l = l.out.items ++ led (map job_text (drop l.job-index l.jobs)) ≡ l.fn.out.items ++ led (map job_text l.jobs)
