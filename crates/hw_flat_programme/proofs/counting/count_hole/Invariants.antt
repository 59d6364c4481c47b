use Rattle.std.proofs.Common.{◌≡◌, ◌+◌, ◌≤◌, length, ◌-◌}
use Rattle.hw_model.specs.Problem.{horizon}
use Rattle.hw_flat_programme.specs.Rows.{numbered_rows, width, window_rows, group_spans}
use Rattle.hw_flat_programme.proofs.counting.count_hole.Given as goal

-- with the rows that are left it is all of them
abbrev pub invariant-loop-last : goal.invariant-loop-last
invariant-loop-last l =
    (l.count + length (numbered_rows l.apart (λ k. 1) (group_spans l.apart l.v l.w l.hole) l.last (horizon l.apart + width l.hole - 1 - l.last)) ≡ length (window_rows l.apart l.v l.w l.hole)) × (l.count ≤ l.last)
