-- A rule on two ships is refuted where no ship whose staying frees it may stay, and holes cover the differences.
use Rattle.std.proofs.Common.{◌≡◌, ℕ, Bool, false, List, IsTrue, ◌↔◌}
use Rattle.std.proofs.lemmas.Bool.{or_parts, or_from}
use Rattle.hw_lemmas.proofs.Truths.{absurd_false, not_true}
use Rattle.hw_model.specs.declared.rule.Hole.{Hole}
use Rattle.hw_rules.specs.declared.spacing.Two.{Two}
use Rattle.hw_rules.specs.declared.spacing.Freeing.{Freeing}
use Rattle.hw_rules.specs.Differences.{HasSlots, AreSlots, NonePasses, frees, clears, passes, least, greatest, Covered}
use Rattle.hw_rules.proofs.Spans.{covered_refutes, refuted_covers}

pub refuted_of : (t : Two) (holes : List Hole) (freeing : Freeing) (horizon : ℕ) (b : Bool) → b ≡ false → (IsTrue b ↔ ((x : ℕ) × (y : ℕ) × (IsTrue (frees horizon freeing x y)) × AreSlots t x y)) → Covered (least t) (greatest t) holes → NonePasses (passes horizon freeing holes) t
refuted_of t holes freeing horizon b off stays covers x y i =
    or_from _ _ (not_true (frees horizon freeing x y) (λ e. absurd_false b off (stays.1 (x, y, e, i)))) (covered_refutes t holes covers x y i)

pub of_refuted : (t : Two) (holes : List Hole) (freeing : Freeing) (horizon : ℕ) → HasSlots t → NonePasses (passes horizon freeing holes) t → Covered (least t) (greatest t) holes
of_refuted t holes freeing horizon slots none =
    refuted_covers t holes slots (λ x y i. (or_parts (frees horizon freeing x y) (clears holes x y) (none x y i)).1)
