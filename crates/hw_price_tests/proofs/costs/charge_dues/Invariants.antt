use Rattle.std.proofs.Common.{◌≡◌, ℕ, ◌+◌, [], drop, length, get_or}
use Rattle.hw_price_laws.specs.Computed.{pays}
use Rattle.hw_price_tests.specs.Charging.{cost_at}
use Rattle.hw_price_tests.proofs.costs.charge_dues.Given as goal

abbrev pub invariant-loop-due : goal.invariant-loop-due
invariant-loop-due l = record {
  each_slot : (ship : ℕ) → length (get_or l.rows ship []) ≡ length (get_or l.initial.rows ship []);
  told : (ship slot : ℕ) → cost_at l.rows ship slot + pays l.flat l.tolls (drop l.due-index l.dues) ship slot ≡ cost_at l.initial.rows ship slot + pays l.flat l.tolls l.dues ship slot;
}
