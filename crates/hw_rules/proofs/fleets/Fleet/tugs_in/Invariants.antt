use Rattle.std.proofs.Common.{◌≡◌, ◌-◌, ◌≤◌, ℕ, length, drop}
use Rattle.hw_model.specs.Rules.{fleet_in}
use Rattle.hw_rules.proofs.fleets.Fleet.tugs_in.Given as goal

abbrev pub invariant-loop-place : goal.invariant-loop-place
invariant-loop-place l = record {
  inside : l.place ≤ length l.steps;
  onward : (s : ℕ) → l.slot ≤ s → fleet_in l.tugs (drop l.place l.steps) s ≡ fleet_in l.fn.self.tugs l.fn.self.later s;
}

abbrev pub decreases-loop-place : goal.decreases-loop-place
decreases-loop-place l = length l.steps - l.place
