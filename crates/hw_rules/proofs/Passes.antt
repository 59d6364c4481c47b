-- One step of a pass through a range of numbers.
use Rattle.std.proofs.Common.{◌≡◌, ℕ, suc, ◌+◌, ◌-◌, ◌<◌, Bool, true, false, not, ◌&&◌, Option, Some, None, find, is_none, is_some, nat_le, nat_lt, List, [], ◌∷◌, fold, sum_by, refl, sym, ap, ◌∙◌, arith, inl, inr}
use Rattle.std.proofs.lemmas.Bool.{cases_lt, lt-ltb, le-ltb, lt-leb, le-leb}
use Rattle.std.proofs.lemmas.List.Sums.{sum_by-cons}
use Rattle.std.specs.List.{list_all, range_with_len}

left : (k n : ℕ) → k < n → (n - k) ≡ suc (n - (k + 1))
left k n lt = omega arith

pub all_step : (p : ℕ → Bool) (k n : ℕ) (all : Bool) → k < n → p k ≡ true → list_all p (range_with_len k (n - k)) ≡ all → list_all p (range_with_len (k + 1) (n - (k + 1))) ≡ all
all_step p k n all lt holds told =
    let h : list_all p (range_with_len k (suc (n - (k + 1)))) ≡ all = rw (left k n lt) at told in
    sym (ap (λ b. b && list_all p (range_with_len (k + 1) (n - (k + 1)))) holds) ∙ h

-- nothing exceeds its bound exactly where all keep to theirs
none_over : (bound sum : ℕ → ℕ) (xs : List ℕ) → is_none (find (λ x. nat_lt (bound x) (sum x)) xs) ≡ list_all (λ x. nat_le (sum x) (bound x)) xs
none_over bound sum [] = refl
none_over bound sum (x ∷ xs) =
    elim (cases_lt (bound x) (sum x)) [
      | inl lt ↦ rw (lt-ltb (bound x) (sum x) lt, lt-leb (sum x) (bound x) lt) refl
      | inr le ↦ rw (le-ltb (bound x) (sum x) le, le-leb (sum x) (bound x) le) (none_over bound sum xs)
    ]

none_found : (o : Option ℕ) (b : Bool) → is_some o ≡ not b → b ≡ is_none o
none_found None true t = refl
none_found None false t = absurd cc
none_found (Some x) true t = absurd cc
none_found (Some x) false t = refl

pub all_keep : (bound sum : ℕ → ℕ) (xs : List ℕ) (o : Option ℕ) (b : Bool) → o ≡ find (λ x. nat_lt (bound x) (sum x)) xs → is_some o ≡ not b → b ≡ list_all (λ x. nat_le (sum x) (bound x)) xs
all_keep bound sum xs o b is t = none_found o b t ∙ ap is_none is ∙ none_over bound sum xs

pub fold_step : {X : Type 0} (g : X → ℕ → X) (so_far next : X) (k n : ℕ) (all : X) → k < n → next ≡ g so_far k → fold g so_far (range_with_len k (n - k)) ≡ all → fold g next (range_with_len (k + 1) (n - (k + 1))) ≡ all
fold_step g so_far next k n all lt is told =
    let h : fold g so_far (range_with_len k (suc (n - (k + 1)))) ≡ all = rw (left k n lt) at told in
    ap (λ x. fold g x (range_with_len (k + 1) (n - (k + 1)))) is ∙ h

pub sum_step : (g : ℕ → ℕ) (k n sum here all : ℕ) → k < n → here ≡ g k → sum + sum_by g (range_with_len k (n - k)) ≡ all → (sum + here) + sum_by g (range_with_len (k + 1) (n - (k + 1))) ≡ all
sum_step g k n sum here all lt is told =
    let h : sum + sum_by g (range_with_len k (suc (n - (k + 1)))) ≡ all = rw (left k n lt) at told in
    omega (arith, h, is, sum_by-cons g k (range_with_len (k + 1) (n - (k + 1))))
