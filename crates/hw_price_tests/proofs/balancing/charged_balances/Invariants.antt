use Rattle.std.proofs.Common.{◌≡◌, ◌-◌, fold, IfSome}
use Rattle.std.specs.List.{range_with_len}
use Rattle.hw_model.specs.Rooms.{low_of, high_of}
use Rattle.hw_price_laws.specs.Computed.{BalanceFits, together, best_balance, best_balances}
use Rattle.hw_price_tests.proofs.balancing.charged_balances.Given as goal

abbrev pub invariant-loop-ship : goal.invariant-loop-ship
invariant-loop-ship l = record {
  small : IfSome l.sum (BalanceFits l.ship);
  told : fold (λ sum ship. together sum (best_balance l.flat l.tolls l.tariff ship (low_of l.room ship) (high_of l.room ship))) l.sum (range_with_len l.ship (l.flat.ships - l.ship)) ≡ best_balances l.flat l.tolls l.tariff l.room;
}
