use Rattle.std.proofs.Common.{◌≡◌, ◌-◌, length}
use Rattle.hw_trail_laws.specs.Trails.{most_events}
use Rattle.hw_search_laws.specs.Settling.{Implies}
use Rattle.hw_search.proofs.engine.Engine.ask_store.Given as goal

abbrev pub invariant-loop-why : goal.invariant-loop-why
invariant-loop-why g l = record {
  goes : Implies l.initial.self.search l.self.search;
  sources : l.self.sources ≡ l.initial.self.sources;
}

abbrev pub decreases-loop-why : goal.decreases-loop-why
decreases-loop-why g l = most_events l.self.search.problem.ships l.self.search.problem.slots - length l.self.search.trail.events
