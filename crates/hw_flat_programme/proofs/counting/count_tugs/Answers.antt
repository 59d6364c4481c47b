use Rattle.std.proofs.Common.{◌≡◌, ◌<◌, ◌≤◌, ℕ, List, length, refl, ◌∙◌, arith}
use Rattle.hw_flat_programme.specs.Programmes.{Row}
use Rattle.hw_model.specs.Problem.{horizon}
use Rattle.hw_model.specs.Rules.{fleet_in}
use Rattle.hw_flat_programme.specs.Rows.{row_at_most, job_spans, numbered_rows}
use Rattle.hw_flat_programme.proofs.Kept.{jobs_fit}
use Rattle.hw_flat_programme.proofs.Onward.{counts_next, counts_end}
use Rattle.hw_flat_programme.proofs.counting.count_tugs.Goals as goal

pub loop-slot-preserved : goal.loop-slot-preserved
loop-slot-preserved c =
    let lt : c.loop-slot.slot < horizon c.args.flat.now = omega (arith, c.loop-slot-test.true) in
    let next = counts_next (λ slot. row_at_most c.args.flat.now (fleet_in c.args.fleet c.args.later.now slot) (job_spans c.args.jobs.now slot)) (numbered_rows c.args.flat.now (fleet_in c.args.fleet c.args.later.now) (job_spans c.args.jobs.now)) (λ k more. refl) c.loop-slot.slot (horizon c.args.flat.now) lt in
    let one : ℕ → List Row = λ slot. row_at_most c.args.flat.now (fleet_in c.args.fleet c.args.later.now slot) (job_spans c.args.jobs.now slot) in
    let bound : c.tugs_in-bound.result ≡ fleet_in c.args.fleet c.args.later.now c.loop-slot.slot = c.tugs_in-bound.ensures.value ∙ c.loop-slot.invariant.0 c.loop-slot.slot (omega arith) in
    let here : c.count_at_most-count.result ≡ length (one c.loop-slot.slot) = rw (c.as_slice.ensures, c.job_spans.ensures, bound) at c.count_at_most-count.ensures.value in
    (λ s le. c.tugs_in-bound.ensures.onward s (omega (arith, le)) ∙ c.loop-slot.invariant.0 s (omega (arith, le)), omega (arith, next, here, c.loop-slot.invariant.1), omega (arith, c.loop-slot.invariant.2, c.count_at_most-count.ensures.small))

pub returns : goal.returns
returns c =
    let le : horizon c.args.flat.now ≤ c.loop-slot.slot = omega (arith, c.loop-slot-test.false) in
    let none = counts_end (numbered_rows c.args.flat.now (fleet_in c.args.fleet c.args.later.now) (job_spans c.args.jobs.now)) (λ k. refl) c.loop-slot.slot (horizon c.args.flat.now) le in
    record { value = omega (arith, none, c.loop-slot.invariant.1); small = omega (arith, c.loop-slot.invariant.2) }

pub count_at_most-count-requires-clause-fit : goal.count_at_most-count-requires-clause-fit
count_at_most-count-requires-clause-fit c = rw (c.as_slice.ensures, c.job_spans.ensures) (jobs_fit c.args.flat.now c.loop-slot.slot c.args.jobs.now c.requires.each_job (omega (arith, c.loop-slot-test.true)))
