use Rattle.std.proofs.Common.{◌+◌}
use Rattle.hw_model.specs.declared.source.Source.TheVariants as sources
use Rattle.hw_rules.specs.Sources.{AreSourcesBefore}
use Rattle.hw_rules.proofs.listing.push_orders.Given as goal

abbrev pub invariant-loop-v : goal.invariant-loop-v
invariant-loop-v l = AreSourcesBefore l.flat (sources.Order 0 1 2) l.fn.out.items → AreSourcesBefore l.flat (sources.Order l.v (l.v + 1) (l.v + 1 + 1)) l.out.items
