-- Lists of numbers, and what holds of each of them.
use Rattle.std.proofs.Common.{◌≡◌, ◌==◌, ℕ, zero, suc, ◌<◌, ◌≤◌, Bool, true, false, not, cond, List, [], ◌∷◌, Result, Ok, Err, is_ok, MatchResult, slice_get, IfSome, All, length, get_or, refl, sym, ap, subst, ◌∙◌, arith, inl, inr, ◌⊎◌}
use Rattle.std.proofs.lemmas.Bool.{eqb-true, eq-eqb, ne_eqb, or_cases, or_left, or_right, or_from, cases_eq, cases_lt, eqb-false}
use Rattle.std.proofs.lemmas.List.Elements.{All-nil, All-cons, All-head, All-tail}
use Rattle.std.proofs.lemmas.List.Kept.{AllPairs-from_increasing}
use Rattle.std.proofs.lemmas.List.Sorted.{searched}
use Rattle.std.specs.List.Sorted.{IsStrictlyIncreasing, IsBinarySearchResult}
use Rattle.std.specs.Ordering.{nat_cmp}
use Rattle.hw_lemmas.specs.Lists.{has}
use Rattle.hw_clash.specs.Clashing.{without_number}

-- ---- numbers of a list

pub has_head : (n : ℕ) (kept : List ℕ) → has (n ∷ kept) n ≡ true
has_head n kept = or_left (n == n) (has kept n) (eq-eqb n n refl)

pub has_tail : (m n : ℕ) (kept : List ℕ) → has kept n ≡ true → has (m ∷ kept) n ≡ true
has_tail m n kept e = or_right (m == n) (has kept n) e

pub has_cases : (m n : ℕ) (kept : List ℕ) → has (m ∷ kept) n ≡ true → (m ≡ n) ⊎ (has kept n ≡ true)
has_cases m n kept e = elim (or_cases (m == n) (has kept n) e) [
  | inl h ↦ inl (eqb-true m n h)
  | inr h ↦ inr h
]

pub all_has : (P : ℕ → Type 0) (kept : List ℕ) → ((n : ℕ) → has kept n ≡ true → P n) → All P kept
all_has P [] each = All-nil P
all_has P (n ∷ kept) each = All-cons P n kept (each n (has_head n kept)) (all_has P kept (λ m e. each m (has_tail n m kept e)))

pub has_all : (P : ℕ → Type 0) (kept : List ℕ) (n : ℕ) → All P kept → has kept n ≡ true → P n
has_all P [] n all e = absurd cc
has_all P (m ∷ kept) n all e = elim (has_cases m n kept e) [
  | inl same ↦ subst P same (All-head P m kept all)
  | inr later ↦ has_all P kept n (All-tail P m kept all) later
]

-- ---- a list without a number

test_same : (m n k : ℕ) (b : Bool) (rest : List ℕ) → (m == n) ≡ b → has (cond (not b) (m ∷ rest) rest) k ≡ true → (has rest k ≡ true) ⊎ ((m ≡ k) × (m ≡ n → ⊥))
test_same m n k true rest e h = inl h
test_same m n k false rest e h = elim (has_cases m k rest h) [
  | inl same ↦ inr (same, eqb-false m n e)
  | inr later ↦ inl later
]

pub of_without : (n k : ℕ) (kept : List ℕ) → has (without_number n kept) k ≡ true → (has kept k ≡ true) × (k ≡ n → ⊥)
of_without n k [] h = absurd cc
of_without n k (m ∷ kept) h = elim (test_same m n k (m == n) (without_number n kept) refl h) [
  | inl later ↦ let r = of_without n k kept later in (has_tail m k kept r.0, r.1)
  | inr here ↦ (subst (λ i. has (m ∷ kept) i ≡ true) here.0 (has_head m kept), λ same. here.1 (here.0 ∙ same))
]

keep_first : (m k : ℕ) (b : Bool) (rest : List ℕ) → b ≡ false → (m ≡ k) ⊎ (has rest k ≡ true) → has (cond (not b) (m ∷ rest) rest) k ≡ true
keep_first m k true rest e h = absurd cc
keep_first m k false rest e h = elim h [
  | inl same ↦ subst (λ i. has (m ∷ rest) i ≡ true) same (has_head m rest)
  | inr later ↦ has_tail m k rest later
]

keep_later : (m k : ℕ) (b : Bool) (rest : List ℕ) → has rest k ≡ true → has (cond (not b) (m ∷ rest) rest) k ≡ true
keep_later m k true rest h = h
keep_later m k false rest h = has_tail m k rest h

pub to_without : (n k : ℕ) (kept : List ℕ) → has kept k ≡ true → (k ≡ n → ⊥) → has (without_number n kept) k ≡ true
to_without n k [] h other = absurd cc
to_without n k (m ∷ kept) h other = elim (has_cases m k kept h) [
  | inl same ↦ keep_first m k (m == n) (without_number n kept) (ne_eqb m n (λ e. other (sym same ∙ e))) (inl same)
  | inr later ↦ keep_later m k (m == n) (without_number n kept) (to_without n k kept later other)
]

-- each number of the first list is one of the second
abbrev pub Within : List ℕ → List ℕ → Type 0
Within few many = (n : ℕ) → has few n ≡ true → has many n ≡ true

pub without_within : (n : ℕ) (few many : List ℕ) → Within few many → Within (without_number n few) (without_number n many)
without_within n few many within k h = let r = of_without n k few h in to_without n k many (within k r.0) r.1

-- ---- what holds of each element of a list, by recursion on it

abbrev pub Each : {A : Type 0} → (A → Type 0) → List A → Type 0
Each P [] = Unit {0}
Each P (x ∷ xs) = P x × Each P xs

pub each_of_all : {A : Type 0} (P : A → Type 0) (xs : List A) → All P xs → Each P xs
each_of_all P [] h = tt
each_of_all P (x ∷ xs) h = (All-head P x xs h, each_of_all P xs (All-tail P x xs h))

pub all_of_each : {A : Type 0} (P : A → Type 0) (xs : List A) → Each P xs → All P xs
all_of_each P [] h = All-nil P
all_of_each P (x ∷ xs) h = All-cons P x xs h.0 (all_of_each P xs h.1)

pub each_at : {A : Type 0} (P : A → Type 0) (xs : List A) (i : ℕ) → Each P xs → IfSome (slice_get xs i) P
each_at P [] i h = tt
each_at P (x ∷ xs) zero h = h.0
each_at P (x ∷ xs) (suc i) h = each_at P xs i h.1

pub each_from : {A : Type 0} (P : A → Type 0) (xs : List A) → ((i : ℕ) → IfSome (slice_get xs i) P) → Each P xs
each_from P [] h = tt
each_from P (x ∷ xs) h = (h 0, each_from P xs (λ i. h (suc i)))

-- ---- a search by halves

has_place : (kept : List ℕ) (i : ℕ) → i < length kept → has kept (get_or kept i 0) ≡ true
has_place [] i lt = absurd (omega (arith, lt))
has_place (m ∷ kept) zero lt = has_head m kept
has_place (m ∷ kept) (suc i) lt = has_tail m (get_or kept i 0) kept (has_place kept i (omega (arith, lt)))

has_none : (kept : List ℕ) (n : ℕ) → ((i : ℕ) → i < length kept → get_or kept i 0 ≡ n → ⊥) → has kept n ≡ false
has_none [] n each = refl
has_none (m ∷ kept) n each = or_from (m == n) (has kept n) (ne_eqb m n (each 0 (omega arith))) (has_none kept n (λ i lt. each (suc i) (omega (arith, lt))))

rises : (kept : List ℕ) → IsStrictlyIncreasing kept → (i j : ℕ) → i ≤ j → j < length kept → get_or kept i 0 ≤ get_or kept j 0
rises kept increasing i j le lt = elim (cases_eq i j) [
  | inl same ↦ let e : get_or kept i 0 ≡ get_or kept j 0 = ap (λ n. get_or kept n 0) same in omega (arith, e)
  | inr other ↦ let below : get_or kept i 0 < get_or kept j 0 = AllPairs-from_increasing kept increasing i j 0 (omega (arith, le, other)) lt in omega (arith, below)
]

pub found : (kept : List ℕ) (n : ℕ) (r : Result ℕ ℕ) → IsStrictlyIncreasing kept → IsBinarySearchResult (λ y. nat_cmp y n) kept r → is_ok r ≡ has kept n
found kept n r increasing is = by_result r (searched kept n r is (rises kept increasing))
  where
    by_result : (r : Result ℕ ℕ) → MatchResult r (λ i. (i < length kept) × (get_or kept i 0 ≡ n)) (λ i. (i ≤ length kept) × ((k : ℕ) → k < i → get_or kept k 0 < n) × ((k : ℕ) → i ≤ k → k < length kept → n < get_or kept k 0)) → is_ok r ≡ has kept n
    by_result (Ok i) h = sym (subst (λ m. has kept m ≡ true) h.1 (has_place kept i h.0))
    by_result (Err i) h = sym (has_none kept n (λ k lt same. elim (cases_lt k i) [
      | inl before ↦ let below : get_or kept k 0 < n = h.1 k before in omega (arith, below, same)
      | inr after ↦ let above : n < get_or kept k 0 = h.2 k after lt in omega (arith, above, same)
    ]))
