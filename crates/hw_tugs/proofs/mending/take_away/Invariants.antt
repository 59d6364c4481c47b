use Rattle.std.proofs.Common.{◌≡◌, ◌+◌, ◌<◌, ◌≤◌, ℕ, length, get_or}
use Rattle.hw_tugs.specs.Held.{tugs_within}
use Rattle.hw_tugs.proofs.mending.take_away.Given as goal

abbrev pub invariant-loop-slot : goal.invariant-loop-slot
invariant-loop-slot l = record {
  size : length l.load ≡ length l.fn.load;
  done : (k : ℕ) → k < l.slot → k < length l.fn.load → get_or l.load k 0 + tugs_within l.from l.to l.tugs k ≡ get_or l.fn.load k 0;
  rest : (k : ℕ) → l.slot ≤ k → get_or l.load k 0 ≡ get_or l.fn.load k 0;
}
