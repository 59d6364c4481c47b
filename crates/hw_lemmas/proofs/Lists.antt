-- Elements of lists by their place, and ranges of numbers.
use Rattle.std.proofs.Common.{◌≡◌, ℕ, zero, suc, ◌+◌, ◌<◌, Bool, cond, List, [], ◌∷◌, ◌++◌, Some, map, filter, slice_get, slice_index, get_or, length, refl, sym, ap, ◌∙◌, arith}
use Rattle.std.proofs.lemmas.List.FromFn.{filter_of_map_range_with_len_more, length-range_with_len, get_or-range_with_len}
use Rattle.std.proofs.lemmas.Option.{slice_get-get_or}
use Rattle.std.specs.List.{range_with_len}
use Rattle.std.specs.List.Sorted.{IsStrictlyIncreasing}

pub get_left : {A : Type 0} (xs ys : List A) (i : ℕ) → i < length xs → slice_get (xs ++ ys) i ≡ slice_get xs i
get_left [] ys i lt = absurd (omega (arith, lt))
get_left (x ∷ xs) ys zero lt = refl
get_left (x ∷ xs) ys (suc i) lt = get_left xs ys i (omega (arith, lt))

pub get_right : {A : Type 0} (xs ys : List A) (i k : ℕ) → k ≡ length xs + i → slice_get (xs ++ ys) k ≡ slice_get ys i
get_right [] ys i k e = let same : k ≡ i = omega (arith, e) in ap (slice_get ys) same
get_right (x ∷ xs) ys i zero e = absurd (omega (arith, e))
get_right (x ∷ xs) ys i (suc k) e = get_right xs ys i k (omega (arith, e))

pub get_within : {A : Type 0} (xs : List A) (i : ℕ) (x : A) → slice_get xs i ≡ Some x → i < length xs
get_within [] i x e = absurd cc
get_within (y ∷ xs) zero x e = omega arith
get_within (y ∷ xs) (suc i) x e = let lt : i < length xs = get_within xs i x e in omega (arith, lt)

pub has_get : {A : Type 0} (xs : List A) (i : ℕ) → i < length xs → (x : A) × (slice_get xs i ≡ Some x)
has_get [] i lt = absurd (omega (arith, lt))
has_get (x ∷ xs) zero lt = (x, refl)
has_get (x ∷ xs) (suc i) lt = has_get xs i (omega (arith, lt))

pub stands_at : (ids : List ℕ) (place : ℕ) → place < length ids → slice_get ids place ≡ Some (slice_index ids place)
stands_at [] place lt = absurd (omega (arith, lt))
stands_at (id ∷ ids) zero lt = refl
stands_at (id ∷ ids) (suc place) lt = stands_at ids place (omega (arith, lt))

pub front_at : {A : Type 0} (xs ys : List A) (i : ℕ) (d : A) → i < length xs → get_or (xs ++ ys) i d ≡ get_or xs i d
front_at [] ys i d lt = absurd (omega (arith, lt))
front_at (x ∷ xs) ys zero d lt = refl
front_at (x ∷ xs) ys (suc i) d lt = front_at xs ys i d (omega (arith, lt))

pub get_range : {X : Type 0} (f : ℕ → X) (a n k : ℕ) → k < n → slice_get (map f (range_with_len a n)) k ≡ Some (f (a + k))
get_range f a zero k lt = absurd (omega (arith, lt))
get_range f a (suc n) zero lt = let e : a ≡ a + 0 = omega arith in ap (λ i. Some (f i)) e
get_range f a (suc n) (suc k) lt = let e : a + 1 + k ≡ a + suc k = omega arith in get_range f (a + 1) n k (omega (arith, lt)) ∙ ap (λ i. Some (f i)) e

pub range_ascends : (a n : ℕ) → IsStrictlyIncreasing (range_with_len a n)
range_ascends a n = λ k lt.
    let within : k + 1 < n = omega (arith, lt, length-range_with_len a n) in
    let here : get_or (range_with_len a n) k 0 ≡ a + k = get_or-range_with_len a n k 0 (omega (arith, within)) in
    let next : get_or (range_with_len a n) (k + 1) 0 ≡ a + (k + 1) = get_or-range_with_len a n (k + 1) 0 within in
    omega (arith, here, next)

-- a filtered range that becomes longer by one number
pub filter_range : (p : ℕ → Bool) (n : ℕ) → filter p (range_with_len 0 (n + 1)) ≡ filter p (range_with_len 0 n) ++ cond (p n) (n ∷ []) []
filter_range p n = ap (filter p) (sym (map_same (range_with_len 0 (n + 1)))) ∙ filter_of_map_range_with_len_more p (λ (x : ℕ). x) 0 n n (omega arith) ∙ ap (λ xs. filter p xs ++ cond (p n) (n ∷ []) []) (map_same (range_with_len 0 n))
  where
    map_same : (xs : List ℕ) → map (λ (x : ℕ). x) xs ≡ xs
    map_same [] = refl
    map_same (x ∷ xs) = ap (λ ys. x ∷ ys) (map_same xs)
