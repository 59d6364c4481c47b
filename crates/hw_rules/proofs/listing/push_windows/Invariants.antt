use Rattle.hw_model.specs.declared.source.Source.TheVariants as sources
use Rattle.hw_rules.specs.Sources.{AreSourcesBefore}
use Rattle.hw_rules.proofs.listing.push_windows.Given as goal

abbrev pub invariant-loop-ship : goal.invariant-loop-ship
invariant-loop-ship l = AreSourcesBefore l.flat (sources.Window 0) l.fn.out.items → AreSourcesBefore l.flat (sources.Window l.ship) l.out.items
