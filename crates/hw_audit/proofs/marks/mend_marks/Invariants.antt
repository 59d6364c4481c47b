use Rattle.std.proofs.Common.{◌≡◌, ◌<◌, ◌≤◌, ℕ, true, Some, slice_get, length, get_or}
use Rattle.hw_model.specs.declared.rule.Rule.{Rule}
use Rattle.hw_audit.specs.Keeping.{holds_now}
use Rattle.hw_audit.proofs.marks.mend_marks.Given as goal

abbrev pub invariant-loop-place : goal.invariant-loop-place
invariant-loop-place l = record {
  size : length l.holds.items ≡ length l.fn.holds.items;
  done : (k : ℕ) (rule : Rule) → k < l.place → slice_get l.flat.rules k ≡ Some rule → get_or l.holds.items k true ≡ holds_now l.flat l.table l.withdrawn rule;
  rest : (k : ℕ) → l.place ≤ k → get_or l.holds.items k true ≡ get_or l.fn.holds.items k true;
}
