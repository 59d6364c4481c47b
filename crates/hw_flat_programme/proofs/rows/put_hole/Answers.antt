use Rattle.std.proofs.Common.{◌<◌, ◌≤◌, refl, ap, arith, ◌+◌, ◌-◌}
use Rattle.hw_model.specs.Problem.{horizon}
use Rattle.hw_desk.proofs.Written.{puts_on, puts_same, puts_nothing}
use Rattle.hw_flat_programme.specs.Rows.{row_at_most, numbered_rows, width, group_spans}
use Rattle.hw_flat_programme.specs.Texts.{rows_text}
use Rattle.hw_flat_programme.proofs.Onward.{rows_text-append, texts_next, texts_end}
use Rattle.hw_flat_programme.proofs.rows.put_hole.Goals as goal

pub loop-last-preserved : goal.loop-last-preserved
loop-last-preserved g c =
    let lt : c.loop-last.last < horizon c.args.apart.now + width c.args.hole - 1 = omega (arith, ap horizon c.flat-flat.ensures, c.loop-last-test.true) in
    λ end h. c.loop-last.invariant end (puts_same _ (texts_next (rows_text c.args.format c.args.apart.now.slots) (rows_text-append c.args.format c.args.apart.now.slots) (λ last. row_at_most c.args.apart.now 1 (group_spans c.args.apart.now c.args.v c.args.w c.args.hole last)) (numbered_rows c.args.apart.now (λ k. 1) (group_spans c.args.apart.now c.args.v c.args.w c.args.hole)) (λ k more. refl) c.loop-last.last (horizon c.args.apart.now + width c.args.hole - 1) lt) (puts_on (rw (c.window_spans.ensures.value, c.flat-flat.ensures) at c.put_group.ensures) h))

pub returns : goal.returns
returns g c =
    let le : horizon c.args.apart.now + width c.args.hole - 1 ≤ c.loop-last.last = omega (arith, ap horizon c.flat-flat.ensures, c.loop-last-test.false) in
    c.loop-last.invariant _ (puts_same _ (texts_end (rows_text c.args.format c.args.apart.now.slots) (numbered_rows c.args.apart.now (λ k. 1) (group_spans c.args.apart.now c.args.v c.args.w c.args.hole)) refl (λ k. refl) c.loop-last.last (horizon c.args.apart.now + width c.args.hole - 1) le) (puts_nothing _))
