use Rattle.std.proofs.Common.{◌≤◌, ℕ, length}
use Rattle.hw_tugs.specs.Over.{IsOver}
use Rattle.hw_tugs.proofs.cutting.last_over.Given as goal

abbrev pub invariant-loop-left : goal.invariant-loop-left
invariant-loop-left l = record {
  inside : l.left ≤ length l.load;
  before : l.left ≤ l.to;
  remainder : (k : ℕ) → l.left ≤ k → IsOver l.load l.fleets l.more l.from l.to k → ⊥;
}

abbrev pub decreases-loop-left : goal.decreases-loop-left
decreases-loop-left l = l.left
