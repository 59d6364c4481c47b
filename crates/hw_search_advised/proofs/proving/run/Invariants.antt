use Rattle.std.proofs.Common.{◌≡◌}
use Rattle.hw_search_laws.specs.Proving.{Proving}
use Rattle.hw_search.specs.Going.{turns_left}
use Rattle.hw_search_advised.proofs.proving.run.Given as goal

abbrev pub invariant-turns : goal.invariant-turns
invariant-turns g l = record {
  going : Proving l.flat l.budget l.search (g.L.Log.state l.fn.log) (g.L.Log.state l.log);
  faults : (g.L.Log.state l.log).faults ≡ (g.L.Log.state l.fn.log).faults;
  same : g.L.Log.anchor l.log ≡ g.L.Log.anchor l.fn.log;
}

abbrev pub decreases-turns : goal.decreases-turns
decreases-turns g l = turns_left l.budget l.search
