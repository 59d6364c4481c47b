use Rattle.std.proofs.Common.{◌≡◌, ◌+◌, ◌-◌, ◌*◌, ◌≤◌, min}
use Rattle.hw_flat_programme.specs.Programmes.{weight_of}
use Rattle.hw_flat_programme.specs.Rows.{span_terms, terms_from}
use Rattle.hw_flat_programme.proofs.span.span_weight.Given as goal

-- with the terms that are left it is all of them
abbrev pub invariant-loop-slot : goal.invariant-loop-slot
invariant-loop-slot l =
    (l.sum + weight_of (terms_from l.flat l.span.weight l.span.ship l.slot (l.span.to - l.slot)) ≡ weight_of (span_terms l.flat l.span)) × (l.sum ≤ 64 * (min l.slot l.span.to - l.span.from))
