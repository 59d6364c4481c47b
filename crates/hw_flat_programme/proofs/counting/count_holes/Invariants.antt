use Rattle.std.proofs.Common.{◌≡◌, ◌+◌, ◌≤◌, ◌*◌, length, drop}
use Rattle.hw_flat_programme.specs.Rows.{hole_rows}
use Rattle.hw_flat_programme.proofs.counting.count_holes.Given as goal

-- with the rows that are left it is all of them
abbrev pub invariant-loop-hole : goal.invariant-loop-hole
invariant-loop-hole l =
    (l.count + length (hole_rows l.apart l.v l.w (drop l.hole-index l.holes)) ≡ length (hole_rows l.apart l.v l.w l.holes)) × (l.count ≤ 1_535 * l.hole-index)
