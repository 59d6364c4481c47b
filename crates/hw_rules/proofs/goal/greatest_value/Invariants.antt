use Rattle.std.proofs.Common.{◌≡◌, ◌+◌, ◌-◌, ◌≤◌, max, fold, unwrap_or}
use Rattle.std.specs.List.{range_with_len}
use Rattle.hw_model.specs.Problem.{value_at}
use Rattle.hw_model.specs.Refuting.{greatest_value}
use Rattle.hw_rules.proofs.goal.greatest_value.Given as goal

abbrev pub invariant-loop-slot : goal.invariant-loop-slot
invariant-loop-slot l = record {
  small : l.greatest ≤ 1_000_000_000_000;
  told : fold (λ most slot. max most (unwrap_or (value_at l.flat l.ship slot) 0)) l.greatest (range_with_len l.slot (l.high + 1 - l.slot)) ≡ greatest_value l.flat l.ship l.low l.high;
}
