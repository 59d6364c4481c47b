use Rattle.std.proofs.Common.{pos, refl, arith}
use Rattle.hw_flat_programme.specs.Rows.{hole_rows, window_rows}
use Rattle.hw_flat_programme.proofs.Onward.{copies_count, items_counted}
use Rattle.hw_flat_programme.proofs.counting.count_holes.Goals as goal

pub loop-hole-preserved : goal.loop-hole-preserved
loop-hole-preserved c =
    let next = copies_count (window_rows c.args.apart.now c.args.v c.args.w) (hole_rows c.args.apart.now c.args.v c.args.w) (λ x xs. refl) c.loop-hole.hole-index c.args.holes.now (record { lo = pos 0; hi = pos 0 }) c.loop-hole-test.true in
    (omega (arith, next, c.count_hole-count.ensures.value, c.loop-hole.invariant.0), omega (arith, c.loop-hole.invariant.1, c.count_hole-count.ensures.small))

pub returns : goal.returns
returns c =
    let none = items_counted (hole_rows c.args.apart.now c.args.v c.args.w) refl c.loop-hole.hole-index c.args.holes.now c.loop-hole-test.false in
    record { value = omega (arith, none, c.loop-hole.invariant.0); small = omega (arith, c.loop-hole.invariant.1) }
