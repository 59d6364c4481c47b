use Rattle.std.proofs.Common.{ℕ, ◌<◌, ◌≤◌, get_or}
use Rattle.hw_tugs.proofs.fleets.least_of.Given as goal

abbrev pub invariant-loop-hour : goal.invariant-loop-hour
invariant-loop-hour l = record {
  first : l.least ≤ l.fleet;
  each : (k : ℕ) → k < l.hour-index → l.least ≤ get_or l.hours k l.fleet;
}
