use Rattle.std.proofs.Common.{◌≡◌, ◌+◌, ◌*◌, ◌≤◌, drop}
use Rattle.hw_price_laws.specs.Prices.{allowance}
use Rattle.hw_price_tests.proofs.taking.allowance_of.Given as goal

abbrev pub invariant-loop-due : goal.invariant-loop-due
invariant-loop-due l = record {
  small : l.sum ≤ 2_560_000_000_000_000_000_000 * l.due-index;
  told : l.sum + allowance l.tolls (drop l.due-index l.dues) ≡ allowance l.tolls l.dues;
}
