use Rattle.std.proofs.Common.{◌-◌, ◌≡◌, ◌≤◌, ◌<◌, ◌+◌, ℕ}
use Rattle.hw_flat.specs.Carried.{worth}
use Rattle.hw_goal.proofs.widening.highest_within.Given as goal

abbrev pub invariant-loop-at : goal.invariant-loop-at
invariant-loop-at l = record {
  above : l.high ≤ l.at;
  inside : l.at < l.flat.slots;
  last : l.last + 1 ≡ l.flat.slots;
  within : (slot : ℕ) → l.high < slot → slot ≤ l.at → worth l.flat l.ship slot ≤ l.most;
}

abbrev pub decreases-loop-at : goal.decreases-loop-at
decreases-loop-at l = l.last - l.at
