use Rattle.std.proofs.Common.{◌-◌, length}
use Rattle.hw_trail_laws.specs.Trails.{most_events}
use Rattle.hw_search_laws.specs.Settling.{Implies}
use Rattle.hw_search.proofs.engine.Engine.settle.Given as goal

abbrev pub invariant-loop-why : goal.invariant-loop-why
invariant-loop-why g l = Implies l.initial.self.search l.self.search

abbrev pub decreases-loop-why : goal.decreases-loop-why
decreases-loop-why g l = most_events l.self.search.problem.ships l.self.search.problem.slots - length l.self.search.trail.events
