use Rattle.std.proofs.Common.{◌≡◌, ℕ, ◌+◌, ◌*◌, ◌≤◌, if◌then◌else◌, drop, get_or}
use Rattle.hw_price_laws.specs.Tolls.{lies_in}
use Rattle.hw_price_laws.specs.Computed.{pays}
use Rattle.hw_price_tests.proofs.charging.charge.Given as goal

abbrev pub invariant-loop-due : goal.invariant-loop-due
invariant-loop-due l = record {
  small : (k : ℕ) → get_or l.costs k 0 ≤ 2_560_000_000_000_000_000_000 * l.due-index;
  told : (k : ℕ) → get_or l.costs k 0 + (if lies_in l.range.low l.range.high k then pays l.flat l.tolls (drop l.due-index l.dues) l.range.ship k else 0) ≡ (if lies_in l.range.low l.range.high k then pays l.flat l.tolls l.dues l.range.ship k else 0);
}
