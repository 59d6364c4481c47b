use Rattle.std.proofs.Common.{◌≡◌, ◌+◌, ◌≤◌, length, ◌-◌}
use Rattle.hw_flat_programme.specs.Rows.{after_rows, after_spans, numbered_rows}
use Rattle.hw_flat_programme.proofs.counting.count_after.Given as goal

-- with the rows that are left it is all of them
abbrev pub invariant-loop-slot : goal.invariant-loop-slot
invariant-loop-slot l =
    (l.count + length (numbered_rows l.flat (λ k. 1) (after_spans l.flat l.v l.w l.gap) l.slot (l.flat.slots - l.slot)) ≡ length (after_rows l.flat l.v l.w l.gap)) × (l.count ≤ l.slot)
