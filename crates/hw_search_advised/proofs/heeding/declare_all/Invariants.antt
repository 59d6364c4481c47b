use Rattle.std.proofs.Common.{◌≡◌}
use Rattle.hw_search_laws.specs.Advised.{Heeds}
use Rattle.hw_search.specs.Pricing.{with_other_prices}
use Rattle.hw_search_advised.specs.Heeding.{with_tolls}
use Rattle.hw_search_advised.proofs.heeding.declare_all.Given as goal

abbrev pub invariant-loop-toll : goal.invariant-loop-toll
invariant-loop-toll g l = record {
  search : l.search ≡ with_other_prices l.fn.search (with_tolls l.fn.search.prices l.yielded);
  heeds : Heeds l.fn.search l.search (g.L.Log.state l.fn.log) (g.L.Log.state l.log);
  same_reference : g.L.Log.anchor l.log ≡ g.L.Log.anchor l.fn.log;
}
