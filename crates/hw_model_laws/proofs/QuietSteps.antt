-- A quiet clause's step is Same or Loose.
use Rattle.std.proofs.Common.{◌⊎◌, ◌≤◌, Bool, true, false, List, [], ◌∷◌, length, IsTrue, refl, arith, inl, inr}
use Rattle.hw_model.specs.declared.lit.Lit.{Lit}
use Rattle.hw_model.specs.Replay.{step_by}
use Rattle.hw_model_laws.specs.Replays.{is_quiet_step}

pub quiet_by : (some : Bool) (free : List Lit) → IsTrue some ⊎ (2 ≤ length free) → IsTrue (is_quiet_step (step_by some free))
quiet_by true free h = refl
quiet_by false [] h = elim h [
  | inl e ↦ e
  | inr few ↦ absurd (omega (arith, few))
]
quiet_by false (lit ∷ []) h = elim h [
  | inl e ↦ e
  | inr few ↦ absurd (omega (arith, few))
]
quiet_by false (a ∷ b ∷ more) h = refl

pub by_quiet : (some : Bool) (free : List Lit) → IsTrue (is_quiet_step (step_by some free)) → IsTrue some ⊎ (2 ≤ length free)
by_quiet true free e = inl refl
by_quiet false [] e = inl e
by_quiet false (lit ∷ []) e = inl e
by_quiet false (a ∷ b ∷ more) e = inr (omega arith)
