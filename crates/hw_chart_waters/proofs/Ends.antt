-- Where a stand ends, and what lies beyond a height.
use Rattle.std.proofs.Common.{◌≡◌, ◌⊎◌, ◌≤◌, ◌<◌, ◌+◌, ℕ, ℤ, zero, suc, Bool, true, false, cond, refl, ap, sym, subst, arith, inl, inr}
use Rattle.std.proofs.lemmas.Bool.Decides.{Decides-int_eq}
use Rattle.std.proofs.lemmas.Int.{ints}
use Rattle.std.specs.Ordering.{int_eq}
use Rattle.hw_chart_waters.specs.declared.stand.WaterKind.{WaterKind}
use Rattle.hw_chart_waters.specs.declared.stand.WaterKind.TheVariants.{High, Low}
use Rattle.hw_chart_waters.specs.Laws.{LiesBeyond}
use Rattle.hw_chart_waters.specs.Stands.{is_beyond, stand_end}

pub next_or_same : (a b : ℕ) → a ≤ b → (a ≡ b) ⊎ (a + 1 ≤ b)
next_or_same zero zero le = inl refl
next_or_same zero (suc b) le = inr (omega arith)
next_or_same (suc a) zero le = absurd (omega (arith, le))
next_or_same (suc a) (suc b) le = elim (next_or_same a b (omega (arith, le))) [ inl e ↦ inl (ap suc e) | inr lt ↦ inr (omega (arith, lt)) ]

same_height : (a b : ℤ) → int_eq a b ≡ true → a ≡ b
same_height a b e = (Decides-int_eq a b).0 e

is_same_height : (a b : ℤ) → a ≡ b → int_eq a b ≡ true
is_same_height a b e = (Decides-int_eq a b).1 e

-- ---- where a stand ends

pub record EndOf (height : ℕ → ℤ) (level : ℤ) (row more end : ℕ) : Type 0 where
  pub onward : row ≤ end
  pub inside : end ≤ row + more
  pub alike : (k : ℕ) → row ≤ k → k < end → height k ≡ level

end_by : (height : ℕ → ℤ) (level : ℤ) (row more rest : ℕ) (b : Bool) → int_eq (height row) level ≡ b → EndOf height level (row + 1) more rest → EndOf height level row (suc more) (cond b rest row)
end_by height level row more rest false e after = record { onward = omega arith; inside = omega arith; alike = λ k ge lt. absurd (omega (arith, ge, lt)) }
end_by height level row more rest true e after =
    let onward = after.onward in
    let inside = after.inside in
    record {
      onward = omega (arith, onward);
      inside = omega (arith, inside);
      alike = λ k ge lt. elim (next_or_same row k ge) [
        | inl same ↦ subst (λ (n : ℕ). height n ≡ level) same (same_height (height row) level e)
        | inr later ↦ after.alike k later lt
      ];
    }

pub end_of : (height : ℕ → ℤ) (level : ℤ) (row more : ℕ) → EndOf height level row more (stand_end height level row more)
end_of height level row zero = record { onward = omega arith; inside = omega arith; alike = λ k ge lt. absurd (omega (arith, ge, lt)) }
end_of height level row (suc more) = end_by height level row more (stand_end height level (row + 1) more) (int_eq (height row) level) refl (end_of height level (row + 1) more)

at_once : (height : ℕ → ℤ) (level : ℤ) (row rest end : ℕ) → row ≡ end → int_eq (height end) level ≡ false → cond (int_eq (height row) level) rest row ≡ end
at_once height level row rest end here other =
    let no : int_eq (height row) level ≡ false = subst (λ (n : ℕ). int_eq (height n) level ≡ false) (sym here) other in
    rw no here

later : (height : ℕ → ℤ) (level : ℤ) (row rest end : ℕ) → height row ≡ level → rest ≡ end → cond (int_eq (height row) level) rest row ≡ end
later height level row rest end same e =
    let yes : int_eq (height row) level ≡ true = is_same_height (height row) level same in
    rw yes e

-- where it ends is told by the rows
pub end_is : (height : ℕ → ℤ) (level : ℤ) (row more end : ℕ) → row ≤ end → end < row + more → ((k : ℕ) → row ≤ k → k < end → height k ≡ level) → int_eq (height end) level ≡ false → stand_end height level row more ≡ end
end_is height level row zero end ge lt same other = absurd (omega (arith, ge, lt))
end_is height level row (suc more) end ge lt same other = elim (next_or_same row end ge) [
  | inl here ↦ at_once height level row (stand_end height level (row + 1) more) end here other
  | inr after ↦ later height level row (stand_end height level (row + 1) more) end (same row (omega arith) (omega (arith, after))) (end_is height level (row + 1) more end after (omega (arith, lt)) (λ k from to. same k (omega (arith, from)) to) other)
]

-- ---- beyond a height

pub beyond : (kind : WaterKind) (a b : ℤ) → is_beyond kind a b ≡ true → LiesBeyond kind a b
beyond High a b e = grind (arith, ints, e)
beyond Low a b e = grind (arith, ints, e)

pub is_beyond_by : (kind : WaterKind) (a b : ℤ) → LiesBeyond kind a b → is_beyond kind a b ≡ true
is_beyond_by High a b e = grind (arith, ints, e)
is_beyond_by Low a b e = grind (arith, ints, e)

pub other_height : (kind : WaterKind) (a b : ℤ) → LiesBeyond kind a b → int_eq b a ≡ false
other_height kind a b e = by (int_eq b a) refl
  where
    never : (kind : WaterKind) (x y : ℤ) → LiesBeyond kind x y → y ≡ x → ⊥
    never High x y lt same = grind (arith, ints, lt, same)
    never Low x y lt same = grind (arith, ints, lt, same)

    by : (v : Bool) → int_eq b a ≡ v → v ≡ false
    by false is = refl
    by true is = absurd (never kind a b e (same_height b a is))
