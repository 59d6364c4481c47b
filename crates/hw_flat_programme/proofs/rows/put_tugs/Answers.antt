use Rattle.std.proofs.Common.{◌≡◌, ◌<◌, ◌≤◌, ◌∙◌, refl, arith}
use Rattle.hw_model.specs.Problem.{horizon}
use Rattle.hw_desk.proofs.Written.{puts_on, puts_same, puts_nothing}
use Rattle.hw_model.specs.Rules.{fleet_in}
use Rattle.hw_flat_programme.specs.Rows.{row_at_most, job_spans, numbered_rows}
use Rattle.hw_flat_programme.specs.Texts.{rows_text}
use Rattle.hw_flat_programme.proofs.Kept.{jobs_fit}
use Rattle.hw_flat_programme.proofs.Onward.{rows_text-append, texts_next, texts_end}
use Rattle.hw_flat_programme.proofs.rows.put_tugs.Goals as goal

pub loop-slot-preserved : goal.loop-slot-preserved
loop-slot-preserved g c =
    let lt : c.loop-slot.slot < horizon c.args.flat.now = omega (arith, c.loop-slot-test.true) in
    let bound : c.tugs_in-bound.result ≡ fleet_in c.args.fleet c.args.later.now c.loop-slot.slot = c.tugs_in-bound.ensures.value ∙ c.loop-slot.invariant.0 c.loop-slot.slot (omega arith) in
    (λ s le. c.tugs_in-bound.ensures.onward s (omega (arith, le)) ∙ c.loop-slot.invariant.0 s (omega (arith, le)), λ end h. c.loop-slot.invariant.1 end (puts_same _ (texts_next (rows_text c.args.format c.args.flat.now.slots) (rows_text-append c.args.format c.args.flat.now.slots) (λ slot. row_at_most c.args.flat.now (fleet_in c.args.fleet c.args.later.now slot) (job_spans c.args.jobs.now slot)) (numbered_rows c.args.flat.now (fleet_in c.args.fleet c.args.later.now) (job_spans c.args.jobs.now)) (λ k more. refl) c.loop-slot.slot (horizon c.args.flat.now) lt) (puts_on (rw (c.as_slice.ensures, c.job_spans.ensures, bound) at c.put_at_most.ensures) h)))

pub returns : goal.returns
returns g c =
    let le : horizon c.args.flat.now ≤ c.loop-slot.slot = omega (arith, c.loop-slot-test.false) in
    c.loop-slot.invariant.1 _ (puts_same _ (texts_end (rows_text c.args.format c.args.flat.now.slots) (numbered_rows c.args.flat.now (fleet_in c.args.fleet c.args.later.now) (job_spans c.args.jobs.now)) refl (λ k. refl) c.loop-slot.slot (horizon c.args.flat.now) le) (puts_nothing _))

pub put_at_most-requires-clause-fit : goal.put_at_most-requires-clause-fit
put_at_most-requires-clause-fit g c = rw (c.as_slice.ensures, c.job_spans.ensures) (jobs_fit c.args.flat.now c.loop-slot.slot c.args.jobs.now c.requires.each_job (omega (arith, c.loop-slot-test.true)))
