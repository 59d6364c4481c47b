use Rattle.hw_model.specs.declared.source.Source.TheVariants as sources
use Rattle.hw_rules.specs.Sources.{AreSourcesBefore}
use Rattle.hw_rules.proofs.listing.push_rules.Given as goal

abbrev pub invariant-loop-place : goal.invariant-loop-place
invariant-loop-place l = AreSourcesBefore l.flat (sources.Rule 0) l.fn.out.items → AreSourcesBefore l.flat (sources.Rule l.place) l.out.items
