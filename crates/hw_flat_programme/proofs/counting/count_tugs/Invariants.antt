use Rattle.std.proofs.Common.{◌≡◌, ◌+◌, ◌≤◌, length, ◌-◌, ℕ}
use Rattle.hw_model.specs.Problem.{horizon}
use Rattle.hw_model.specs.Rules.{fleet_in}
use Rattle.hw_flat_programme.specs.Rows.{job_spans, numbered_rows, tug_rows}
use Rattle.hw_flat_programme.proofs.counting.count_tugs.Given as goal

-- the fleet is known from this slot on, and with the rows that are left it is all of them
abbrev pub invariant-loop-slot : goal.invariant-loop-slot
invariant-loop-slot l =
    ((s : ℕ) → l.slot ≤ s → fleet_in l.tugs.tugs l.tugs.later s ≡ fleet_in l.fn.fleet l.fn.later s) × (l.count + length (numbered_rows l.flat (fleet_in l.fn.fleet l.fn.later) (job_spans l.jobs) l.slot (horizon l.flat - l.slot)) ≡ length (tug_rows l.flat l.fn.fleet l.fn.later l.jobs)) × (l.count ≤ l.slot)
