use Rattle.std.proofs.Common.{◌≡◌, ◌-◌, ◌≤◌, ℕ, find, nat_lt, sum_by}
use Rattle.std.specs.List.{range_with_len}
use Rattle.hw_model.specs.Problem.{horizon}
use Rattle.hw_model.specs.Rules.{held_by, fleet_in}
use Rattle.hw_rules.proofs.tugs.overfull.Given as goal

abbrev pub invariant-loop-slot : goal.invariant-loop-slot
invariant-loop-slot l = record {
  onward : (s : ℕ) → l.slot ≤ s → fleet_in l.tugs.tugs l.tugs.later s ≡ fleet_in l.fn.fleet l.fn.later s;
  told : find (λ slot. nat_lt (fleet_in l.fn.fleet l.fn.later slot) (sum_by (held_by l.table slot) l.jobs)) (range_with_len l.slot (horizon l.flat - l.slot)) ≡ find (λ slot. nat_lt (fleet_in l.fn.fleet l.fn.later slot) (sum_by (held_by l.table slot) l.jobs)) (range_with_len 0 (horizon l.flat));
}
