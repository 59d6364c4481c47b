use Rattle.std.proofs.Common.{◌≡◌, ◌-◌, ◌≤◌, length}
use Rattle.hw_flat.specs.TextForms.{items_of, job_form, with_front}
use Rattle.hw_flat.proofs.rules.jobs_of.Given as goal

abbrev pub invariant-loop-word : goal.invariant-loop-word
invariant-loop-word l = record {
  few : length l.jobs.items ≤ 40;
  told : with_front l.jobs.items (items_of (job_form l.ships) (40 - length l.jobs.items) l.words) ≡ items_of (job_form l.ships) 40 l.fn.words;
}

abbrev pub decreases-loop-word : goal.decreases-loop-word
decreases-loop-word l = length l.words
