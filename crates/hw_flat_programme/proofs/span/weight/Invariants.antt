use Rattle.std.proofs.Common.{◌≡◌, ◌+◌, ◌*◌, ◌≤◌, drop}
use Rattle.hw_flat_programme.specs.Programmes.{weight_of}
use Rattle.hw_flat_programme.specs.Rows.{terms_of}
use Rattle.hw_flat_programme.proofs.span.weight.Given as goal

-- with the spans that are left it is all of them
abbrev pub invariant-loop-span : goal.invariant-loop-span
invariant-loop-span l =
    (l.sum + weight_of (terms_of l.flat (drop l.span-index l.spans)) ≡ weight_of (terms_of l.flat l.spans)) × (l.sum ≤ 32_832 * l.span-index)
