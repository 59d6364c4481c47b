use Rattle.std.proofs.Common.{◌≡◌, ◌-◌, ◌≤◌, ℕ}
use Rattle.hw_desk.specs.Writers.{WriterState, Puts}
use Rattle.hw_model.specs.Problem.{horizon}
use Rattle.hw_model.specs.Rules.{fleet_in}
use Rattle.hw_flat_programme.specs.Rows.{job_spans, numbered_rows, tug_rows}
use Rattle.hw_flat_programme.specs.Texts.{rows_text}
use Rattle.hw_flat_programme.proofs.rows.put_tugs.Given as goal

-- the fleet is known from this slot on, and whatever follows the rows so far, beginning with those that are left
abbrev pub invariant-loop-slot : goal.invariant-loop-slot
invariant-loop-slot g l =
    let state = g.W.Writer.state in
    ((s : ℕ) → l.slot ≤ s → fleet_in l.tugs.tugs l.tugs.later s ≡ fleet_in l.fn.fleet l.fn.later s) × ((end : WriterState) → Puts (rows_text l.format l.flat.slots (numbered_rows l.flat (fleet_in l.fn.fleet l.fn.later) (job_spans l.jobs) l.slot (horizon l.flat - l.slot))) (state l.out) end → Puts (rows_text l.format l.flat.slots (tug_rows l.flat l.fn.fleet l.fn.later l.jobs)) (state l.fn.out) end)
