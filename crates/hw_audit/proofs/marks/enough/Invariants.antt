use Rattle.std.proofs.Common.{◌≡◌, ℕ, ◌-◌, ◌≤◌, nat_le, get_or}
use Rattle.std.specs.List.{list_all, range_with_len}
use Rattle.hw_model.specs.Rules.{fleet_in}
use Rattle.hw_audit.proofs.marks.enough.Given as goal

abbrev pub invariant-loop-slot : goal.invariant-loop-slot
invariant-loop-slot l = record {
  onward : (s : ℕ) → l.slot ≤ s → fleet_in l.tugs.tugs l.tugs.later s ≡ fleet_in l.fleet l.later s;
  told : list_all (λ s. nat_le (get_or l.held s 0) (fleet_in l.fleet l.later s - l.withdrawn)) (range_with_len l.slot (l.horizon - l.slot)) ≡ list_all (λ s. nat_le (get_or l.held s 0) (fleet_in l.fleet l.later s - l.withdrawn)) (range_with_len 0 l.horizon);
}
