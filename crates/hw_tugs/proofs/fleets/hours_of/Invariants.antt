use Rattle.std.proofs.Common.{◌≡◌, ℕ, ◌<◌, ◌≤◌, length, get_or}
use Rattle.hw_model.specs.Rules.{fleet_in}
use Rattle.hw_tugs.proofs.fleets.hours_of.Given as goal

abbrev pub invariant-loop-slot : goal.invariant-loop-slot
invariant-loop-slot l = record {
  size : length l.hours.items ≡ l.slot;
  told : (k : ℕ) → k < l.slot → get_or l.hours.items k l.fleet ≡ fleet_in l.fleet l.later k;
  rest : (k : ℕ) → l.slot ≤ k → fleet_in l.tugs.tugs l.tugs.later k ≡ fleet_in l.fleet l.later k;
}
