-- Flags, one after another, and the level of a value.
use Rattle.std.proofs.Common.{◌≡◌, ◌↔◌, ◌<◌, ◌+◌, ◌++◌, ℕ, Bool, true, false, List, [], ◌∷◌, length, get_or, inl, inr, arith}
use Rattle.std.proofs.Math.ListN.{get_or-append}
use Rattle.std.proofs.lemmas.Bool.{cases_lt}
use Rattle.std.proofs.lemmas.List.{get_or_push}

-- one more flag says what it is to say, and the others what they said
pub flag_more : (flags : List Bool) (flag : Bool) (place p : ℕ) (P : Type 0) → length flags ≡ place → p < place + 1 → (p < place → (get_or flags p false ≡ true) ↔ P) → (place ≡ p → (flag ≡ true) ↔ P) → (get_or (flags ++ flag ∷ []) p false ≡ true) ↔ P
flag_more flags flag place p P long lt before now =
    elim (cases_lt p place) [
      | inl less ↦ rw (get_or-append flags (flag ∷ []) false p (omega (arith, less, long))) (before less)
      | inr more ↦ rw (get_or_push flags flag false p (omega (arith, long, lt, more))) (now (omega (arith, lt, more)))
    ]
