use Rattle.std.proofs.Common.{◌≡◌, ◌-◌, ◌+◌, ◌≤◌, true, false, length}
use Rattle.hw_trail_laws.specs.Trails.{most_events}
use Rattle.hw_search.specs.Askings.{Gains}
use Rattle.hw_search_laws.specs.Settling.{Implies}
use Rattle.hw_search_sources.specs.Marks.{ClearWithin}
use Rattle.hw_search.proofs.engine.Engine.ask_round.Given as goal

abbrev pub invariant-loop-place : goal.invariant-loop-place
invariant-loop-place g l = record {
  sources : l.self.sources ≡ l.initial.self.sources;
  within : l.from ≤ length l.self.sources;
  implies : Implies l.initial.self.search l.self.search;
  still : l.cut ≡ false → (l.self.search ≡ l.initial.self.search) × ClearWithin l.self.marks 0 l.from;
  gains : l.cut ≡ true → Gains l.initial.self.search l.self.search;
}

abbrev pub decreases-loop-place : goal.decreases-loop-place
decreases-loop-place g l = (most_events l.self.search.problem.ships l.self.search.problem.slots - length l.self.search.trail.events) + (length l.self.sources - l.from)
