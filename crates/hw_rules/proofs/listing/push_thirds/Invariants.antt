use Rattle.std.proofs.Common.{◌+◌}
use Rattle.hw_model.specs.declared.source.Source.TheVariants as sources
use Rattle.hw_rules.specs.Sources.{AreSourcesBefore}
use Rattle.hw_rules.proofs.listing.push_thirds.Given as goal

abbrev pub invariant-loop-x : goal.invariant-loop-x
invariant-loop-x l = AreSourcesBefore l.flat (sources.Order l.v l.w (l.w + 1)) l.fn.out.items → AreSourcesBefore l.flat (sources.Order l.v l.w l.x) l.out.items
