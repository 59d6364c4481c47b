use Rattle.std.proofs.Common.{◌<◌, ℕ}
use Rattle.hw_tugs.specs.Over.{IsOver}
use Rattle.hw_tugs.proofs.cutting.first_over.Given as goal

abbrev pub invariant-loop-slot : goal.invariant-loop-slot
invariant-loop-slot l = (k : ℕ) → k < l.slot → IsOver l.load l.fleets l.more l.from l.to k → ⊥
