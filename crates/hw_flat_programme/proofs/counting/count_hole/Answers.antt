use Rattle.std.proofs.Common.{◌≡◌, ◌<◌, ◌≤◌, ◌+◌, ◌-◌, ℕ, List, length, refl, ap, arith}
use Rattle.hw_flat_programme.specs.Programmes.{Row}
use Rattle.hw_model.specs.Problem.{horizon}
use Rattle.hw_flat_programme.specs.Rows.{row_at_most, numbered_rows, width, group_spans}
use Rattle.hw_flat_programme.proofs.Onward.{counts_next, counts_end}
use Rattle.hw_flat_programme.proofs.counting.count_hole.Goals as goal

pub loop-last-preserved : goal.loop-last-preserved
loop-last-preserved c =
    let lt : c.loop-last.last < horizon c.args.apart.now + width c.args.hole - 1 = omega (arith, ap horizon c.flat-flat.ensures, c.loop-last-test.true) in
    let next = counts_next (λ last. row_at_most c.args.apart.now 1 (group_spans c.args.apart.now c.args.v c.args.w c.args.hole last)) (numbered_rows c.args.apart.now (λ k. 1) (group_spans c.args.apart.now c.args.v c.args.w c.args.hole)) (λ k more. refl) c.loop-last.last (horizon c.args.apart.now + width c.args.hole - 1) lt in
    let one : ℕ → List Row = λ last. row_at_most c.args.apart.now 1 (group_spans c.args.apart.now c.args.v c.args.w c.args.hole last) in
    let here : c.count_group-count.result ≡ length (one c.loop-last.last) = rw (c.window_spans.ensures.value, c.flat-flat.ensures) at c.count_group-count.ensures.value in
    (omega (arith, next, here, c.loop-last.invariant.0), omega (arith, c.loop-last.invariant.1, c.count_group-count.ensures.small))

pub returns : goal.returns
returns c =
    let le : horizon c.args.apart.now + width c.args.hole - 1 ≤ c.loop-last.last = omega (arith, ap horizon c.flat-flat.ensures, c.loop-last-test.false) in
    let none = counts_end (numbered_rows c.args.apart.now (λ k. 1) (group_spans c.args.apart.now c.args.v c.args.w c.args.hole)) (λ k. refl) c.loop-last.last (horizon c.args.apart.now + width c.args.hole - 1) le in
    record { value = omega (arith, none, c.loop-last.invariant.0); small = omega (arith, c.loop-last.invariant.1) }
