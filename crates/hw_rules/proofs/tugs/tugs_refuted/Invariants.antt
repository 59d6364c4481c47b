use Rattle.std.proofs.Common.{◌≡◌, ◌-◌, ◌≤◌, ℕ, nat_lt, sum_by}
use Rattle.std.specs.List.{list_any, range_with_len}
use Rattle.hw_model.specs.Problem.{horizon}
use Rattle.hw_model.specs.Refuting.{forced_by}
use Rattle.hw_model.specs.Rules.{fleet_in}
use Rattle.hw_rules.proofs.tugs.tugs_refuted.Given as goal

abbrev pub invariant-loop-slot : goal.invariant-loop-slot
invariant-loop-slot l = record {
  onward : (s : ℕ) → l.slot ≤ s → fleet_in l.tugs.tugs l.tugs.later s ≡ fleet_in l.fn.fleet l.fn.later s;
  told : list_any (λ slot. nat_lt (fleet_in l.fn.fleet l.fn.later slot) (sum_by (forced_by l.room slot) l.jobs)) (range_with_len l.slot (horizon l.flat - l.slot)) ≡ list_any (λ slot. nat_lt (fleet_in l.fn.fleet l.fn.later slot) (sum_by (forced_by l.room slot) l.jobs)) (range_with_len 0 (horizon l.flat));
}
