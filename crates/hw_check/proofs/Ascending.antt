-- Ascending numbers are determined by which they are.
use Rattle.std.proofs.Common.{◌≡◌, ℕ, zero, suc, ◌+◌, ◌<◌, ◌≤◌, ◌==◌, Bool, true, false, ◌||◌, ◌&&◌, cond, List, [], ◌∷◌, filter, max, fold, All, refl, sym, ap, ◌∙◌, subst, inl, inr, arith}
use Rattle.std.proofs.lemmas.Bool.{cases_Bool, cases_lt, or_cases, or_left, both_ways, ne_eqb, eq-eqb, eqb-true, false_from_ne_true}
use Rattle.std.proofs.lemmas.List.Elements.{All-weaker}
use Rattle.std.proofs.lemmas.List.Folds.{Any-from_list_any, list_any_at, list_any_none}
use Rattle.std.proofs.lemmas.List.Kept.{AllPairs-from_increasing}
use Rattle.std.specs.List.{AllPairs, Contains, range_with_len}
use Rattle.std.specs.List.Sorted.{IsStrictlyIncreasing}
use Rattle.hw_cert_laws.proofs.Naming.{from_among}
use Rattle.hw_check.specs.Marks.{is_among_numbers}

-- ---- among and Contains

among_contained : (ids : List ℕ) (id : ℕ) → Contains ids id → is_among_numbers id ids ≡ true
among_contained ids id has = list_any_at (λ other. other == id) ids has.0 id has.1 (eq-eqb _ _ has.2)

contained_among : (ids : List ℕ) (id : ℕ) → is_among_numbers id ids ≡ true → Contains ids id
contained_among ids id e =
    let found = Any-from_list_any (λ other. other == id) ids e in
    subst (Contains ids) (eqb-true found.1 id found.4) (found.0, found.2, found.3)

same_truth : (a b : Bool) → (a ≡ true → b ≡ true) → (b ≡ true → a ≡ true) → a ≡ b
same_truth true b there back = sym (there refl)
same_truth false b there back = sym (false_from_ne_true b (λ e. absurd (both_ways false refl (back e))))

pub same_among : (xs ys : List ℕ) → ((x : ℕ) → Contains xs x → Contains ys x) → ((x : ℕ) → Contains ys x → Contains xs x) → (id : ℕ) → is_among_numbers id xs ≡ is_among_numbers id ys
same_among xs ys there back id = same_truth _ _ (λ e. among_contained ys id (there id (contained_among xs id e))) (λ e. among_contained xs id (back id (contained_among ys id e)))

-- ---- ascending numbers

abbrev Rises : List ℕ → Type 0
Rises xs = AllPairs (λ a b. a < b) xs

head_below : (x : ℕ) (xs : List ℕ) → Rises (x ∷ xs) → All (λ y. x < y) xs
head_below x xs rises = λ k d lt. rises 0 (suc k) d (omega arith) (omega (arith, lt))

tail_rises : (x : ℕ) (xs : List ℕ) → Rises (x ∷ xs) → Rises xs
tail_rises x xs rises = λ i j d lt within. rises (suc i) (suc j) d (omega (arith, lt)) (omega (arith, within))

at_least : (x : ℕ) (xs : List ℕ) (id : ℕ) → Rises (x ∷ xs) → is_among_numbers id (x ∷ xs) ≡ true → x ≤ id
at_least x xs id rises e = elim (or_cases _ _ e) [
  | inl here ↦
      let is = eqb-true x id here in
      omega (arith, is)
  | inr later ↦
      let lt : x < id = from_among (λ y. x < y) xs id later (head_below x xs rises) in
      omega (arith, lt)
]

none_below : (x : ℕ) (xs : List ℕ) (id : ℕ) → Rises (x ∷ xs) → id ≤ x → is_among_numbers id xs ≡ false
none_below x xs id rises le = list_any_none (λ other. other == id) xs (All-weaker (λ y. x < y) (λ y. (y == id) ≡ false) (λ y lt. ne_eqb y id (λ is. omega (arith, is, lt, le))) xs (head_below x xs rises))

same_rising : (xs ys : List ℕ) → Rises xs → Rises ys → ((id : ℕ) → is_among_numbers id xs ≡ is_among_numbers id ys) → xs ≡ ys
same_rising [] [] a b e = refl
same_rising [] (y ∷ ys) a b e = absurd (both_ways _ (sym (e y)) (or_left _ _ (eq-eqb y y refl)))
same_rising (x ∷ xs) [] a b e = absurd (both_ways _ (e x) (or_left _ _ (eq-eqb x x refl)))
same_rising (x ∷ xs) (y ∷ ys) a b e =
    let low : x ≤ y = at_least x xs y a (e y ∙ or_left _ _ (eq-eqb y y refl)) in
    let high : y ≤ x = at_least y ys x b (sym (e x) ∙ or_left _ _ (eq-eqb x x refl)) in
    let head : x ≡ y = omega (arith, low, high) in
    let rest : xs ≡ ys = same_rising xs ys (tail_rises x xs a) (tail_rises y ys b) (λ id. elim (cases_lt x id) [
      | inl lt ↦ ap (λ t. t || is_among_numbers id xs) (sym (ne_eqb x id (λ is. omega (arith, is, lt)))) ∙ e id ∙ ap (λ t. t || is_among_numbers id ys) (ne_eqb y id (λ is. omega (arith, is, lt, head)))
      | inr le ↦ none_below x xs id a le ∙ sym (none_below y ys id b (omega (arith, le, head)))
    ]) in
    ap (λ z. z ∷ xs) head ∙ ap (λ zs. y ∷ zs) rest

pub same_ascending : (xs ys : List ℕ) → IsStrictlyIncreasing xs → IsStrictlyIncreasing ys → ((id : ℕ) → is_among_numbers id xs ≡ is_among_numbers id ys) → xs ≡ ys
same_ascending xs ys a b e = same_rising xs ys (AllPairs-from_increasing xs a) (AllPairs-from_increasing ys b) e

-- ---- among what a filter keeps, and in a range

pub among_filter : (p : ℕ → Bool) (xs : List ℕ) (id : ℕ) → is_among_numbers id (filter p xs) ≡ (p id && is_among_numbers id xs)
among_filter p [] id = sym (none (p id))
  where
    none : (b : Bool) → (b && false) ≡ false
    none true = refl
    none false = refl
among_filter p (x ∷ xs) id = by (p x) (x == id) (p id) (filter p xs) (is_among_numbers id xs) refl (λ e. ap p (eqb-true x id e)) (among_filter p xs id)
  where
    by : (keeps here wanted : Bool) (kept : List ℕ) (later : Bool) → (x == id) ≡ here → (here ≡ true → keeps ≡ wanted) → is_among_numbers id kept ≡ (wanted && later) → is_among_numbers id (cond keeps (x ∷ kept) kept) ≡ (wanted && (here || later))
    by true true true kept later is same e = or_left _ _ is
    by true true false kept later is same e = absurd (both_ways true (same refl) refl)
    by true false wanted kept later is same e = ap (λ b. b || is_among_numbers id kept) is ∙ e
    by false true true kept later is same e = absurd (both_ways true (sym (same refl)) refl)
    by false true false kept later is same e = e
    by false false wanted kept later is same e = e

pub among_range : (a n id : ℕ) → a ≤ id → id < a + n → is_among_numbers id (range_with_len a n) ≡ true
among_range a zero id le lt = absurd (omega (arith, le, lt))
among_range a (suc n) id le lt = elim (cases_Bool (a == id)) [
  | inl here ↦ or_left _ _ here
  | inr not_here ↦
      let rest : is_among_numbers id (range_with_len (a + 1) n) ≡ true = among_range (a + 1) n id (past a id le not_here) (omega (arith, lt)) in
      ap (λ b. b || is_among_numbers id (range_with_len (a + 1) n)) not_here ∙ rest
]
  where
    past : (a id : ℕ) → a ≤ id → (a == id) ≡ false → a + 1 ≤ id
    past a id le e = elim (cases_lt a id) [
      | inl lt ↦ omega (arith, lt)
      | inr ge ↦ absurd (both_ways _ e (eq-eqb a id (omega (arith, le, ge))))
    ]

-- each number is at most the greatest
at_most_from : (start : ℕ) (ids : List ℕ) → start ≤ fold max start ids
at_most_from start [] = omega arith
at_most_from start (x ∷ ids) =
    let more = at_most_from (max start x) ids in
    omega (arith, more)

pub at_most_greatest : (start : ℕ) (ids : List ℕ) (id : ℕ) → is_among_numbers id ids ≡ true → id ≤ fold max start ids
at_most_greatest start [] id e = absurd cc
at_most_greatest start (x ∷ ids) id e = elim (or_cases _ _ e) [
  | inl here ↦
      let is = eqb-true x id here in
      let more = at_most_from (max start x) ids in
      omega (arith, is, more)
  | inr later ↦ at_most_greatest (max start x) ids id later
]
