use Rattle.std.proofs.Common.{◌≡◌, ◌+◌, ◌-◌, fold, IfSome}
use Rattle.std.specs.List.{range_with_len}
use Rattle.hw_price_laws.specs.Computed.{BalanceFits, balance, better, best_balance}
use Rattle.hw_price_tests.proofs.balancing.best_by_costs.Given as goal

abbrev pub invariant-loop-slot : goal.invariant-loop-slot
invariant-loop-slot l = record {
  small : IfSome l.most (BalanceFits 1);
  told : fold (λ most slot. better most (balance l.flat l.tolls l.tariff l.range.ship slot)) l.most (range_with_len l.slot (l.range.high + 1 - l.slot)) ≡ best_balance l.flat l.tolls l.tariff l.range.ship l.range.low l.range.high;
}
