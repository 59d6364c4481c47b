use Rattle.std.proofs.Common.{◌+◌}
use Rattle.hw_model.specs.declared.source.Source.TheVariants as sources
use Rattle.hw_rules.specs.Sources.{AreSourcesBefore}
use Rattle.hw_rules.proofs.listing.push_seconds.Given as goal

abbrev pub invariant-loop-w : goal.invariant-loop-w
invariant-loop-w l = AreSourcesBefore l.flat (sources.Order l.v (l.v + 1) (l.v + 1 + 1)) l.fn.out.items → AreSourcesBefore l.flat (sources.Order l.v l.w (l.w + 1)) l.out.items
