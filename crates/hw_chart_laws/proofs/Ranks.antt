-- Rows have places of their own: of two ships one stands above the other, and a rank is below the number of ships.
use Rattle.std.proofs.Common.{◌≡◌, ◌≢◌, ◌⊎◌, ◌<◌, ◌≤◌, ◌∙◌, ℕ, zero, suc, Bool, true, false, cond, Option, Some, None, IfSome, List, [], ◌∷◌, count_by, get_or, length, slice_index, refl, ap, arith, inl, inr, zero-add}
use Rattle.std.specs.List.{enumerate_from}
use Rattle.std.proofs.lemmas.Bool.{cases_lt}
use Rattle.std.proofs.lemmas.Bool.Decides.{nat_tests}
use Rattle.std.proofs.lemmas.List.FromFn.{get_or-enumerate_from, length-enumerate_from}
use Rattle.std.proofs.lemmas.List.Sums.{count_by-le-length, sum_by-cons}
use Rattle.hw_lemmas.proofs.Truths.{one_le}
use Rattle.hw_chart.specs.Layout.{rank_of, stands_above, rank_in}

-- ---- how often two tests hold

as_often : {X : Type 0} (p q : X → Bool) (xs : List X) → ((x : X) → p x ≡ true → q x ≡ true) → count_by p xs ≤ count_by q xs
as_often p q [] h = omega arith
as_often p q (x ∷ xs) h =
    let a = sum_by-cons (λ y. cond (p y) 1 0) x xs in
    let b = sum_by-cons (λ y. cond (q y) 1 0) x xs in
    let here = one_le (p x) (q x) (h x) in
    let rest = as_often p q xs h in
    omega (arith, a, b, here, rest)

-- one that holds wherever the other does, and somewhere else too, holds more often
more_often : {X : Type 0} (p q : X → Bool) (xs : List X) (k : ℕ) (d : X) → ((x : X) → p x ≡ true → q x ≡ true) → k < length xs → p (get_or xs k d) ≡ false → q (get_or xs k d) ≡ true → count_by p xs < count_by q xs
more_often p q [] k d h lt fails held = absurd (omega (arith, lt))
more_often p q (x ∷ xs) zero d h lt fails held =
    let a = sum_by-cons (λ y. cond (p y) 1 0) x xs in
    let b = sum_by-cons (λ y. cond (q y) 1 0) x xs in
    let none : ◌≡◌ {A = ℕ} (cond (p x) 1 0) 0 = ap (λ (c : Bool). cond c 1 0) fails in
    let one : ◌≡◌ {A = ℕ} (cond (q x) 1 0) 1 = ap (λ (c : Bool). cond c 1 0) held in
    let rest = as_often p q xs h in
    omega (arith, a, b, none, one, rest)
more_often p q (x ∷ xs) (suc k) d h lt fails held =
    let a = sum_by-cons (λ y. cond (p y) 1 0) x xs in
    let b = sum_by-cons (λ y. cond (q y) 1 0) x xs in
    let here = one_le (p x) (q x) (h x) in
    let rest = more_often p q xs k d h (omega (arith, lt)) fails held in
    omega (arith, a, b, here, rest)

-- ---- who stands above whom

passed_on : (a i b j c k : ℕ) → stands_above a i b j ≡ true → stands_above b j c k ≡ true → stands_above a i c k ≡ true
passed_on a i b j c k p q = grind (arith, nat_tests)

not_above_itself : (a i : ℕ) → stands_above a i a i ≡ false
not_above_itself a i = grind (arith, nat_tests)

by_slots : (a i b j : ℕ) → i < j → stands_above a i b j ≡ true
by_slots a i b j lt = grind (arith, nat_tests)

by_numbers : (a i b j : ℕ) → i ≡ j → a < b → stands_above a i b j ≡ true
by_numbers a i b j e lt = grind (arith, nat_tests)

one_above : (a i b j : ℕ) → a ≢ b → (stands_above a i b j ≡ true) ⊎ (stands_above b j a i ≡ true)
one_above a i b j differ = elim (cases_lt i j) [
  | inl before ↦ inl (by_slots a i b j before)
  | inr not ↦ elim (cases_lt j i) [
    | inl after ↦ inr (by_slots b j a i after)
    | inr also ↦ elim (cases_lt a b) [
      | inl less ↦ inl (by_numbers a i b j (omega (arith, not, also)) less)
      | inr more ↦ inr (by_numbers b j a i (omega (arith, not, also)) (omega (arith, more, differ)))
    ]
  ]
]

abbrev above : List ℕ → ℕ → ℕ × ℕ → Bool
above table ship given = stands_above given.0 given.1 ship (slice_index table ship)

at_place : (table : List ℕ) (v : ℕ) → v < length table → get_or (enumerate_from 0 table) v (0, 0) ≡ (v, slice_index table v)
at_place table v lt = get_or-enumerate_from 0 table v (0, 0) lt ∙ ap (λ (n : ℕ). (n, slice_index table v)) (zero-add v)

listed : (table : List ℕ) (v : ℕ) → v < length table → v < length (enumerate_from 0 table)
listed table v lt = let long = length-enumerate_from 0 table in omega (arith, lt, long)

not_itself : (table : List ℕ) (v : ℕ) → v < length table → above table v (get_or (enumerate_from 0 table) v (0, 0)) ≡ false
not_itself table v lt = ap (above table v) (at_place table v lt) ∙ not_above_itself v (slice_index table v)

-- a ship that stands above another one has the lesser rank
lesser : (table : List ℕ) (v w : ℕ) → v < length table → stands_above v (slice_index table v) w (slice_index table w) ≡ true → rank_of table v < rank_of table w
lesser table v w lt over =
    more_often (above table v) (above table w) (enumerate_from 0 table) v (0, 0) (λ x p. passed_on x.0 x.1 v (slice_index table v) w (slice_index table w) p over) (listed table v lt) (not_itself table v lt) (ap (above table w) (at_place table v lt) ∙ over)

below_all : (table : List ℕ) (v : ℕ) → v < length table → rank_of table v < length table
below_all table v lt =
    let more = more_often (above table v) (λ x. true) (enumerate_from 0 table) v (0, 0) (λ x p. refl) (listed table v lt) (not_itself table v lt) refl in
    let few = count_by-le-length (λ (x : ℕ × ℕ). true) (enumerate_from 0 table) in
    let long = length-enumerate_from 0 table in
    omega (arith, more, few, long)

-- ---- with a timetable or without one

abbrev pub HasSlots : Option (List ℕ) → ℕ → Type 0
HasSlots table ships = IfSome table (λ slots. length slots ≡ ships)

pub rank_below : (table : Option (List ℕ)) (ships v : ℕ) → HasSlots table ships → v < ships → rank_in table v < ships
rank_below None ships v has lt = lt
rank_below (Some slots) ships v has lt = let below = below_all slots v (omega (arith, has, lt)) in omega (arith, has, below)

pub ranks_differ : (table : Option (List ℕ)) (ships v w : ℕ) → HasSlots table ships → v < ships → w < ships → v ≢ w → (rank_in table v < rank_in table w) ⊎ (rank_in table w < rank_in table v)
ranks_differ None ships v w has lt less differ = elim (cases_lt v w) [
  | inl before ↦ inl before
  | inr not ↦ inr (omega (arith, not, differ))
]
ranks_differ (Some slots) ships v w has lt less differ = elim (one_above v (slice_index slots v) w (slice_index slots w) differ) [
  | inl over ↦ inl (lesser slots v w (omega (arith, has, lt)) over)
  | inr under ↦ inr (lesser slots w v (omega (arith, has, less)) under)
]
