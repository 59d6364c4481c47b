-- The literal of a branching rule is open.
use Rattle.std.proofs.Common.{◌≡◌, ◌⊎◌, ℕ, zero, suc, ◌+◌, ◌-◌, ◌<◌, ◌≤◌, max, Bool, true, false, cond, nat_lt, nat_le, ◌&&◌, List, [], ◌∷◌, Option, Some, None, filter, find, fold, unwrap_or, option_map, option_and_then, IsSomeAnd, refl, sym, ap, ◌∙◌, subst, arith, inl, inr}
use Rattle.std.specs.Prelude.{◌==◌}
use Rattle.std.specs.List.{list_all, range_with_len}
use Rattle.std.proofs.lemmas.Bool.{cases_Bool, cases_lt, and_from, ltb-true, ltb-false, lt-ltb, le-leb, le-ltb, lt-leb, eq-eqb}
use Rattle.hw_model.specs.declared.lit.Lit.{Lit}
use Rattle.hw_model.specs.declared.lit.Lit.TheVariants.{AtOrAfter, Before}
use Rattle.hw_model.specs.declared.lit.LitTruth.TheVariants.{True, False, Free}
use Rattle.hw_model.specs.Problem.{Problem, shape_of, value_at}
use Rattle.hw_model.specs.Lits.{lit_fits}
use Rattle.hw_model.specs.Rooms.{RoomModel, RoomFits, IsPoint, low_of, high_of}
use Rattle.hw_model.specs.Narrowing.{truth}
use Rattle.hw_model_laws.proofs.Counting.{most_at}
use Rattle.hw_trail_laws.proofs.Knowing.{low_high, high_slots}
use Rattle.hw_search_laws.specs.declared.outcome.Branching.{Branching}
use Rattle.hw_search_laws.specs.declared.outcome.Branching.TheVariants.{Greatest, Earliest, Latest}
use Rattle.hw_search_laws.specs.Branches.{wide_ships, greatest_in, greatest_slot, from_slot, branch_literal}

-- ---- open bounds

cut_free : (a b : Bool) → a ≡ false → b ≡ false → cond a True (cond b False Free) ≡ Free
cut_free true b e f = absurd cc
cut_free false true e f = absurd cc
cut_free false false e f = refl

-- a literal of the shape that the room leaves open
abbrev pub IsOpen : Problem → RoomModel → Lit → Type 0
IsOpen f room lit = (lit_fits (shape_of f) lit ≡ true) × (truth room lit ≡ Free)

bound_fits : (f : Problem) (ship k : ℕ) → ship < f.ships → 1 ≤ k → k < f.slots → (nat_lt ship f.ships && (nat_le 1 k && nat_lt k f.slots)) ≡ true
bound_fits f ship k a b c = and_from (nat_lt ship f.ships) (nat_le 1 k && nat_lt k f.slots) (lt-ltb ship f.ships a) (and_from (nat_le 1 k) (nat_lt k f.slots) (le-leb 1 k b) (lt-ltb k f.slots c))

open_after : (f : Problem) (room : RoomModel) (ship k : ℕ) → RoomFits f room → ship < room.ships → low_of room ship < k → k ≤ high_of room ship → IsOpen f room (AtOrAfter ship k)
open_after f room ship k fits lt low high =
    let h = high_slots room fits.is_room ship lt in
    (bound_fits f ship k (omega (arith, lt, fits.same_ships)) (omega (arith, low)) (omega (arith, high, h, fits.same_slots)), cut_free _ _ (lt-leb _ _ low) (le-ltb _ _ high))

open_before : (f : Problem) (room : RoomModel) (ship k : ℕ) → RoomFits f room → ship < room.ships → low_of room ship < k → k ≤ high_of room ship → IsOpen f room (Before ship k)
open_before f room ship k fits lt low high =
    let h = high_slots room fits.is_room ship lt in
    (bound_fits f ship k (omega (arith, lt, fits.same_ships)) (omega (arith, low)) (omega (arith, high, h, fits.same_slots)), cut_free _ _ (le-ltb _ _ high) (lt-leb _ _ low))

-- ---- members

abbrev Mem : ℕ → List ℕ → Type 0
Mem x [] = ⊥
Mem x (y ∷ ys) = (y ≡ x) ⊎ Mem x ys

found_by : (p : ℕ → Bool) (b : Bool) (x : ℕ) (xs : List ℕ) (z : ℕ) → p x ≡ b → cond b (Some x) (find p xs) ≡ Some z → (find p xs ≡ Some z → Mem z xs × (p z ≡ true)) → Mem z (x ∷ xs) × (p z ≡ true)
found_by p true x xs z e h k = let same : x ≡ z = cc in (inl same, subst (λ (y : ℕ). p y ≡ true) same e)
found_by p false x xs z e h k = let r = k h in (inr r.0, r.1)

found : (p : ℕ → Bool) (xs : List ℕ) (z : ℕ) → find p xs ≡ Some z → Mem z xs × (p z ≡ true)
found p [] z e = absurd cc
found p (x ∷ xs) z e = found_by p (p x) x xs z refl e (found p xs z)

some_by : (p : ℕ → Bool) (b : Bool) (x : ℕ) (xs : List ℕ) → (b ≡ false → (z : ℕ) × (find p xs ≡ Some z)) → (z : ℕ) × (cond b (Some x) (find p xs) ≡ Some z)
some_by p true x xs k = (x, refl)
some_by p false x xs k = k refl

some_found : (p : ℕ → Bool) (xs : List ℕ) (x : ℕ) → Mem x xs → p x ≡ true → (z : ℕ) × (find p xs ≡ Some z)
some_found p [] x i e = absurd i
some_found p (y ∷ ys) x (inl same) e = some_by p (p y) y ys (λ n. absurd (let t : p y ≡ true = ap p same ∙ e in let z : true ≡ false = sym t ∙ n in cc))
some_found p (y ∷ ys) x (inr i) e = some_by p (p y) y ys (λ n. some_found p ys x i e)

in_range : (a n x : ℕ) → Mem x (range_with_len a n) → (a ≤ x) × (x < a + n)
in_range a zero x i = absurd i
in_range a (suc n) x (inl e) = (omega (arith, e), omega (arith, e))
in_range a (suc n) x (inr i) = let r = in_range (a + 1) n x i in (omega (arith, r.0), omega (arith, r.1))

range_in : (a n x : ℕ) → a ≤ x → x < a + n → Mem x (range_with_len a n)
range_in a zero x le lt = absurd (omega (arith, le, lt))
range_in a (suc n) x le lt = elim (cases_lt a x) [
  | inl less ↦ inr (range_in (a + 1) n x (omega (arith, less)) (omega (arith, lt)))
  | inr at ↦ inl (omega (arith, at, le))
]

filter_by : (p : ℕ → Bool) (b : Bool) (y x : ℕ) (ys : List ℕ) → p y ≡ b → (Mem x (filter p ys) → Mem x ys × (p x ≡ true)) → Mem x (cond b (y ∷ filter p ys) (filter p ys)) → Mem x (y ∷ ys) × (p x ≡ true)
filter_by p true y x ys e k (inl same) = (inl same, ap p (sym same) ∙ e)
filter_by p true y x ys e k (inr i) = let r = k i in (inr r.0, r.1)
filter_by p false y x ys e k i = let r = k i in (inr r.0, r.1)

of_filter : (p : ℕ → Bool) (xs : List ℕ) (x : ℕ) → Mem x (filter p xs) → Mem x xs × (p x ≡ true)
of_filter p [] x i = absurd i
of_filter p (y ∷ ys) x i = filter_by p (p y) y x ys refl (of_filter p ys x) i

in_filter : (p : ℕ → Bool) (xs : List ℕ) (x : ℕ) → Mem x xs → p x ≡ true → Mem x (filter p xs)
in_filter p [] x i e = absurd i
in_filter p (y ∷ ys) x (inl same) e = here (p y) (ap p same ∙ e)
  where
    here : (b : Bool) → b ≡ true → Mem x (cond b (y ∷ filter p ys) (filter p ys))
    here true h = inl same
    here false h = absurd cc
in_filter p (y ∷ ys) x (inr i) e = there (p y) (in_filter p ys x i e)
  where
    there : (b : Bool) → Mem x (filter p ys) → Mem x (cond b (y ∷ filter p ys) (filter p ys))
    there true m = inr m
    there false m = m

-- ---- a ship with several slots

some_wide : (f : Problem) (room : RoomModel) → RoomFits f room → (IsPoint room → ⊥) → (ship : ℕ) × (ship < room.ships) × (nat_lt (low_of room ship) (high_of room ship) ≡ true)
some_wide f room fits ne = by (find (λ ship. nat_lt (low_of room ship) (high_of room ship)) (range_with_len 0 room.ships)) refl
  where
    by : (o : Option ℕ) → find (λ ship. nat_lt (low_of room ship) (high_of room ship)) (range_with_len 0 room.ships) ≡ o → (ship : ℕ) × (ship < room.ships) × (nat_lt (low_of room ship) (high_of room ship) ≡ true)
    by (Some ship) e = let r = found (λ ship. nat_lt (low_of room ship) (high_of room ship)) (range_with_len 0 room.ships) ship e in (ship, omega (arith, (in_range 0 room.ships ship r.0).1), r.1)
    by None e = absurd (ne (λ ship lt. elim (cases_Bool (nat_lt (low_of room ship) (high_of room ship))) [
      | inl y ↦ absurd (let r = some_found (λ ship. nat_lt (low_of room ship) (high_of room ship)) (range_with_len 0 room.ships) ship (range_in 0 room.ships ship (omega arith) (omega (arith, lt))) y in let z : None ≡ Some r.0 = sym e ∙ r.1 in cc)
      | inr n ↦ let le : high_of room ship ≤ low_of room ship = ltb-false _ _ n in omega (arith, le, low_high room fits.is_room ship lt)
    ]))

first_wide : (f : Problem) (room : RoomModel) → RoomFits f room → (IsPoint room → ⊥) → (ship : ℕ) × (find (λ ship. nat_lt (low_of room ship) (high_of room ship)) (range_with_len 0 room.ships) ≡ Some ship) × (ship < room.ships) × (low_of room ship < high_of room ship)
first_wide f room fits ne =
    let w = some_wide f room fits ne in
    let s = some_found (λ ship. nat_lt (low_of room ship) (high_of room ship)) (range_with_len 0 room.ships) w.0 (range_in 0 room.ships w.0 (omega arith) (omega (arith, w.1))) w.2 in
    let r = found (λ ship. nat_lt (low_of room ship) (high_of room ship)) (range_with_len 0 room.ships) s.0 s.1 in
    (s.0, s.1, omega (arith, (in_range 0 room.ships s.0 r.0).1), ltb-true _ _ r.1)

-- ---- the greatest

all_below : (g : ℕ → ℕ) (m : ℕ) (xs : List ℕ) → ((x : ℕ) → Mem x xs → g x ≤ m) → list_all (λ x. nat_le (g x) m) xs ≡ true
all_below g m [] h = refl
all_below g m (x ∷ xs) h = and_from (nat_le (g x) m) (list_all (λ x. nat_le (g x) m) xs) (le-leb _ _ (h x (inl refl))) (all_below g m xs (λ y i. h y (inr i)))

argmax : (g : ℕ → ℕ) (x : ℕ) (xs : List ℕ) → (z : ℕ) × Mem z (x ∷ xs) × ((y : ℕ) → Mem y (x ∷ xs) → g y ≤ g z)
argmax g x [] = (x, inl refl, λ y i. only y i)
  where
    only : (y : ℕ) → Mem y (x ∷ []) → g y ≤ g x
    only y (inl e) = omega (arith, ap g e)
    only y (inr i) = absurd i
argmax g x (w ∷ ws) =
    let r = argmax g w ws in
    elim (cases_lt (g r.0) (g x)) [
      | inl less ↦ (x, inl refl, λ y i. first y r.0 less r.2 i)
      | inr more ↦ (r.0, inr r.1, λ y i. rest y r.0 more r.2 i)
    ]
  where
    first : (y z : ℕ) → g z < g x → ((u : ℕ) → Mem u (w ∷ ws) → g u ≤ g z) → Mem y (x ∷ w ∷ ws) → g y ≤ g x
    first y z less h (inl e) = omega (arith, ap g e)
    first y z less h (inr i) = omega (arith, h y i, less)

    rest : (y z : ℕ) → g x ≤ g z → ((u : ℕ) → Mem u (w ∷ ws) → g u ≤ g z) → Mem y (x ∷ w ∷ ws) → g y ≤ g z
    rest y z more h (inl e) = omega (arith, ap g e, more)
    rest y z more h (inr i) = h y i

a_greatest : (g : ℕ → ℕ) (xs : List ℕ) (x : ℕ) → Mem x xs → (z : ℕ) × Mem z xs × ((y : ℕ) → Mem y xs → g y ≤ g z)
a_greatest g [] x i = absurd i
a_greatest g (y ∷ ys) x i = argmax g y ys

-- the greatest of a range is reached where it isn't 0
reached : (v : ℕ → ℕ) (xs : List ℕ) (m : ℕ) → (fold (λ most slot. max most (v slot)) m xs ≡ m) ⊎ ((slot : ℕ) × Mem slot xs × (v slot ≡ fold (λ most slot. max most (v slot)) m xs))
reached v [] m = inl refl
reached v (x ∷ xs) m = elim (reached v xs (max m (v x))) [
  | inl e ↦ elim (cases_lt m (v x)) [
    | inl less ↦ inr (x, inl refl, omega (arith, e, less))
    | inr more ↦ inl (omega (arith, e, more))
  ]
  | inr r ↦ inr (r.0, inr r.1, r.2)
]

some_slot : (f : Problem) (room : RoomModel) (ship : ℕ) → low_of room ship ≤ high_of room ship → (slot : ℕ) × (greatest_slot f room ship ≡ Some slot) × (low_of room ship ≤ slot) × (slot ≤ high_of room ship)
some_slot f room ship le =
    let low = low_of room ship in
    let n = high_of room ship + 1 - low_of room ship in
    let v : ℕ → ℕ = λ slot. unwrap_or (value_at f ship slot) 0 in
    let top = greatest_in f room ship in
    let test : ℕ → Bool = λ slot. unwrap_or (value_at f ship slot) 0 == greatest_in f room ship in
    let has : (slot : ℕ) × Mem slot (range_with_len low n) × (v slot ≡ top) = elim (reached v (range_with_len low n) 0) [
      | inl e ↦
          let at : v low ≤ top = most_at v low n 0 low (omega arith) (omega (arith, le)) in
          (low, range_in low n low (omega arith) (omega (arith, le)), omega (arith, at, e))
      | inr r ↦ r
    ] in
    let s = some_found test (range_with_len low n) has.0 has.1 (eq-eqb (v has.0) top has.2) in
    let r = found test (range_with_len low n) s.0 s.1 in
    let b = in_range low n s.0 r.0 in
    (s.0, s.1, b.0, omega (arith, b.1, le))

from_open : (f : Problem) (room : RoomModel) (ship slot : ℕ) → RoomFits f room → ship < room.ships → low_of room ship < high_of room ship → low_of room ship ≤ slot → slot ≤ high_of room ship → IsOpen f room (from_slot room ship slot)
from_open f room ship slot fits lt wide low high = by (nat_lt (low_of room ship) slot) refl
  where
    by : (b : Bool) → nat_lt (low_of room ship) slot ≡ b → IsOpen f room (cond b (AtOrAfter ship slot) (Before ship (low_of room ship + 1)))
    by true e = open_after f room ship slot fits lt (ltb-true _ _ e) high
    by false e = open_before f room ship (low_of room ship + 1) fits lt (omega arith) (omega (arith, wide))

pub branch_open : (b : Branching) (f : Problem) (room : RoomModel) → RoomFits f room → (IsPoint room → ⊥) → IsSomeAnd (branch_literal b f room) (IsOpen f room)
branch_open Earliest f room fits ne =
    let w = first_wide f room fits ne in
    subst (λ o. IsSomeAnd (option_map (λ ship. Before ship (low_of room ship + 1)) o) (IsOpen f room)) (sym w.1) (open_before f room w.0 (low_of room w.0 + 1) fits w.2 (omega arith) (omega (arith, w.3)))
branch_open Latest f room fits ne =
    let w = first_wide f room fits ne in
    subst (λ o. IsSomeAnd (option_map (λ ship. AtOrAfter ship (high_of room ship)) o) (IsOpen f room)) (sym w.1) (open_after f room w.0 (high_of room w.0) fits w.2 w.3 (omega arith))
branch_open Greatest f room fits ne =
    let w = some_wide f room fits ne in
    let ships = wide_ships room in
    let i : Mem w.0 ships = in_filter (λ ship. nat_lt (low_of room ship) (high_of room ship)) (range_with_len 0 room.ships) w.0 (range_in 0 room.ships w.0 (omega arith) (omega (arith, w.1))) w.2 in
    let g = a_greatest (greatest_in f room) ships w.0 i in
    let s = some_found (λ ship. list_all (λ other. nat_le (greatest_in f room other) (greatest_in f room ship)) ships) ships g.0 g.1 (all_below (greatest_in f room) (greatest_in f room g.0) ships g.2) in
    let r = found (λ ship. list_all (λ other. nat_le (greatest_in f room other) (greatest_in f room ship)) ships) ships s.0 s.1 in
    let m = of_filter (λ ship. nat_lt (low_of room ship) (high_of room ship)) (range_with_len 0 room.ships) s.0 r.0 in
    let lt : s.0 < room.ships = omega (arith, (in_range 0 room.ships s.0 m.0).1) in
    let wide' : low_of room s.0 < high_of room s.0 = ltb-true _ _ m.1 in
    let k = some_slot f room s.0 (omega (arith, wide')) in
    subst (λ o. IsSomeAnd (option_and_then (λ ship. option_map (from_slot room ship) (greatest_slot f room ship)) o) (IsOpen f room)) (sym s.1) (subst (λ o. IsSomeAnd (option_map (from_slot room s.0) o) (IsOpen f room)) (sym k.1) (from_open f room s.0 k.0 fits lt wide' k.2 k.3))
