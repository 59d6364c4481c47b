use Rattle.std.proofs.Common.{◌≤◌, ◌<◌}
use Rattle.hw_goal.specs.Kept.{IsPeak}
use Rattle.hw_goal.proofs.tops.peak_of.Given as goal

abbrev pub invariant-loop-at : goal.invariant-loop-at
invariant-loop-at l = record {
  above : l.low ≤ l.at;
  below : l.at ≤ l.high;
  inside : l.high < l.flat.slots;
  peak : IsPeak l.flat l.ship l.at l.high l.peak;
  small : l.peak.value ≤ 1_000_000_000_000;
}

abbrev pub decreases-loop-at : goal.decreases-loop-at
decreases-loop-at l = l.at
