use Rattle.std.proofs.Common.{◌≡◌, ◌+◌, ◌-◌, ◌*◌, ◌≤◌, sum_by}
use Rattle.std.specs.List.{range_with_len}
use Rattle.hw_model.specs.Rooms.{low_of, high_of}
use Rattle.hw_model.specs.Refuting.{greatest_value, greatest_sum}
use Rattle.hw_goal.proofs.widening.sum_in.Given as goal

abbrev pub invariant-loop-ship : goal.invariant-loop-ship
invariant-loop-ship l = record {
  small : l.sum ≤ 1_000_000_000_000 * l.ship;
  told : l.sum + sum_by (λ ship. greatest_value l.flat ship (low_of l.room ship) (high_of l.room ship)) (range_with_len l.ship (l.flat.ships - l.ship)) ≡ greatest_sum l.flat l.room;
}
