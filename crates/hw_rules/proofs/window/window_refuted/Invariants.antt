use Rattle.std.proofs.Common.{◌≡◌, ◌+◌, ◌-◌, is_none}
use Rattle.std.specs.List.{list_all, range_with_len}
use Rattle.hw_model.specs.Problem.{value_at}
use Rattle.hw_model.specs.Rooms.{low_of, high_of}
use Rattle.hw_rules.proofs.window.window_refuted.Given as goal

abbrev pub invariant-loop-slot : goal.invariant-loop-slot
invariant-loop-slot l = list_all (λ slot. is_none (value_at l.flat l.ship slot)) (range_with_len l.slot (high_of l.room l.ship + 1 - l.slot)) ≡ list_all (λ slot. is_none (value_at l.flat l.ship slot)) (range_with_len (low_of l.room l.ship) (high_of l.room l.ship + 1 - low_of l.room l.ship))
