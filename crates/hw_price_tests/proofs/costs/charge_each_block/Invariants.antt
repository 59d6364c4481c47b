use Rattle.std.proofs.Common.{◌≡◌, ℕ, ◌+◌, ◌*◌, [], drop, map, sum_by, length, get_or}
use Rattle.hw_price_laws.specs.Tolls.{block_charge}
use Rattle.hw_price_laws.specs.Computed.{takes}
use Rattle.hw_price_tests.specs.Charging.{cost_at}
use Rattle.hw_price_tests.proofs.costs.charge_each_block.Given as goal

abbrev pub invariant-loop-block : goal.invariant-loop-block
invariant-loop-block l = record {
  each_slot : (ship : ℕ) → length (get_or l.rows ship []) ≡ length (get_or l.initial.rows ship []);
  told : (ship slot : ℕ) → cost_at l.rows ship slot + l.price * sum_by (takes ship slot) (map block_charge (drop l.block-index l.blocks)) ≡ cost_at l.initial.rows ship slot + l.price * sum_by (takes ship slot) (map block_charge l.blocks);
}
