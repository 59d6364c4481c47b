use Rattle.std.proofs.Common.{◌≡◌, ◌≤◌, ◌<◌, ◌-◌, ◌++◌, ℕ, length, drop, All}
use Rattle.std.specs.List.{flat_map, range_with_len}
use Rattle.hw_tide.specs.Twelfths.{InLimits}
use Rattle.hw_tide.specs.Tides.{heights_in_slot, slot_at}
use Rattle.hw_tide.proofs.filling.filled.Given as goal

abbrev pub invariant-loop-slot : goal.invariant-loop-slot
invariant-loop-slot l = record {
  inside : l.place < length l.levels;
  not_before : slot_at l.levels l.place ≤ l.slot;
  same : (later : ℕ) → l.slot ≤ later → heights_in_slot (drop l.place l.levels) later ≡ heights_in_slot l.levels later;
  told : l.heights.items ++ flat_map (heights_in_slot l.levels) (range_with_len l.slot (l.rows - l.slot)) ≡ flat_map (heights_in_slot l.levels) (range_with_len 0 l.rows);
  small : All InLimits l.heights.items;
}
