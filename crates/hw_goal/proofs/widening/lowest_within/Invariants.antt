use Rattle.std.proofs.Common.{◌≤◌, ◌<◌, ℕ}
use Rattle.hw_flat.specs.Carried.{worth}
use Rattle.hw_goal.proofs.widening.lowest_within.Given as goal

abbrev pub invariant-loop-at : goal.invariant-loop-at
invariant-loop-at l = record {
  below : l.at ≤ l.low;
  within : (slot : ℕ) → l.at ≤ slot → slot < l.low → worth l.flat l.ship slot ≤ l.most;
}

abbrev pub decreases-loop-at : goal.decreases-loop-at
decreases-loop-at l = l.at
