use Rattle.std.proofs.Common.{◌≡◌, ◌-◌, length}
use Rattle.hw_trail_laws.specs.Trails.{most_events}
use Rattle.hw_search_laws.specs.Advised.{Heeds}
use Rattle.hw_search_advised.proofs.advising.advised_turn.Given as goal

abbrev pub invariant-rounds : goal.invariant-rounds
invariant-rounds g l = record {
  heeds : Heeds l.fn.search l.search (g.L.Log.state l.fn.log) (g.L.Log.state l.log);
  same_reference : g.L.Log.anchor l.log ≡ g.L.Log.anchor l.fn.log;
}

abbrev pub decreases-rounds : goal.decreases-rounds
decreases-rounds g l = most_events l.search.problem.ships l.search.problem.slots - length l.search.trail.events
