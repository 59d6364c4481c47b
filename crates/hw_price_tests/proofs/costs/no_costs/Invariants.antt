use Rattle.std.proofs.Common.{◌≡◌, ℕ, ◌<◌, [], length, get_or}
use Rattle.hw_price_tests.specs.Charging.{cost_at}
use Rattle.hw_price_tests.proofs.costs.no_costs.Given as goal

abbrev pub invariant-loop-ship : goal.invariant-loop-ship
invariant-loop-ship l = record {
  long : length l.rows.items ≡ l._ship;
  each_slot : (ship : ℕ) → ship < l._ship → length (get_or l.rows.items ship []) ≡ l.shape.slots;
  none : (ship slot : ℕ) → cost_at l.rows.items ship slot ≡ 0;
}
