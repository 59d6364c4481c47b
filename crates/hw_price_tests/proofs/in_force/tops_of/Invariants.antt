use Rattle.std.proofs.Common.{◌≡◌, ℕ, ◌-◌, ◌<◌, None, length, get_or, All, IfSome}
use Rattle.hw_price_laws.specs.Computed.{BalanceFits, best_balance}
use Rattle.hw_price_tests.proofs.in_force.tops_of.Given as goal

abbrev pub invariant-loop-ship : goal.invariant-loop-ship
invariant-loop-ship l = record {
  long : length l.tops.items ≡ l.ship;
  small : All (λ top. IfSome top (BalanceFits 1)) l.tops.items;
  told : (k : ℕ) → k < l.ship → get_or l.tops.items k None ≡ best_balance l.flat l.tolls l.tariff k 0 (l.flat.slots - 1);
}
