use Rattle.std.proofs.Common.{◌≡◌, ◌≤◌, ◌<◌, ◌-◌, ℕ, length, drop}
use Rattle.hw_tide.specs.Tides.{heights_in_slot, slot_at}
use Rattle.hw_tide.proofs.filling.reached.Given as goal

abbrev pub invariant-loop-place : goal.invariant-loop-place
invariant-loop-place l = record {
  inside : l.place < length l.levels;
  not_before : slot_at l.levels l.place ≤ l.slot;
  same : (later : ℕ) → l.slot ≤ later → heights_in_slot (drop l.place l.levels) later ≡ heights_in_slot (drop l.fn.from l.levels) later;
}

abbrev pub decreases-loop-place : goal.decreases-loop-place
decreases-loop-place l = length l.levels - l.place
