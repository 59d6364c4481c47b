use Rattle.std.proofs.Common.{◌≡◌, ℕ, ◌<◌, length, get_or}
use Rattle.hw_model.specs.Rules.{busy}
use Rattle.hw_audit.proofs.tugs.held_by.Given as goal

abbrev pub invariant-loop-slot : goal.invariant-loop-slot
invariant-loop-slot l = record {
  size : length l.held.items ≡ l.slot;
  told : (k : ℕ) → k < l.slot → get_or l.held.items k 0 ≡ busy l.rule l.table k;
}
