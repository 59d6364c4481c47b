-- What is broken now.
use Rattle.std.proofs.Common.{◌≡◌, inl, inr, ℕ, zero, suc, ◌+◌, ◌<◌, Bool, true, false, cond, not, List, [], ◌∷◌, filter, find, Option, Some, None, All, Contains, length, get_or, refl, sym, ap, subst, ◌∙◌, arith}
use Rattle.std.proofs.lemmas.Bool.{not_from_false}
use Rattle.std.proofs.lemmas.List.{length-map}
use Rattle.std.proofs.lemmas.List.Elements.{All-contains, All-filter, All-from_get_or, filter_passes, Contains-append_right, Contains-append_cases}
use Rattle.std.proofs.lemmas.List.FromFn.{length-range_with_len, get_or-range_with_len}
use Rattle.std.proofs.lemmas.List.Kept.{IsStrictlyIncreasing-filter}
use Rattle.std.specs.List.{range_with_len}
use Rattle.hw_lemmas.proofs.Lists.{range_ascends}
use Rattle.hw_plan_texts.specs.Fleets.{lessened_rule, lessened}
use Rattle.hw_plan_texts.proofs.Fleets.{lessened_fits as fleet_fits, same_problem}
use Rattle.hw_model_laws.proofs.Broken.{permits_from, from_permits}
use Rattle.hw_model.specs.Timetables.{Permits, restriction_holds, restriction_count}
use Rattle.hw_audit.specs.Watching.{watched, is_broken}
use Rattle.hw_audit.specs.Laws.{NoneBroken, NoneBrokenFirst, LessenedFits, BrokenExactly}

-- ---- what is listed

first_is : (x y : ℕ) → Contains (y ∷ []) x → y ≡ x
first_is x y (zero, lt, e) = e
first_is x y (suc k, lt, e) = absurd (omega (arith, lt))

kept_here : (test : ℕ → Bool) (x : ℕ) (xs : List ℕ) → test x ≡ true → Contains (cond (test x) (x ∷ xs) xs) x
kept_here test x xs e = subst (λ b. Contains (cond b (x ∷ xs) xs) x) (sym e) (0, omega arith, refl)

kept_later : (x y : ℕ) (xs : List ℕ) (b : Bool) → Contains xs x → Contains (cond b (y ∷ xs) xs) x
kept_later x y xs true has = Contains-append_right (y ∷ []) xs x has
kept_later x y xs false has = has

pub contains_filter : (test : ℕ → Bool) (x : ℕ) (xs : List ℕ) → test x ≡ true → Contains xs x → Contains (filter test xs) x
contains_filter test x [] e has = absurd (omega (arith, has.1))
contains_filter test x (y ∷ xs) e has = elim (Contains-append_cases (y ∷ []) xs x has) [
  | inl here ↦
      let same : y ≡ x = first_is x y here in
      subst (λ z. Contains (cond (test z) (z ∷ filter test xs) (filter test xs)) x) (sym same) (kept_here test x (filter test xs) e)
  | inr later ↦ kept_later x y (filter test xs) (test y) (contains_filter test x xs e later)
]

in_range : (n k : ℕ) → k < n → Contains (range_with_len 0 n) k
in_range n k lt =
    let size : length (range_with_len 0 n) ≡ n = length-range_with_len 0 n in
    let there : get_or (range_with_len 0 n) k k ≡ 0 + k = get_or-range_with_len 0 n k k lt in
    let z : 0 + k ≡ k = omega arith in
    (k, omega (arith, lt, size), there ∙ z)

range_below : (n : ℕ) → All (λ k. k < n) (range_with_len 0 n)
range_below n = All-from_get_or (λ k. k < n) (range_with_len 0 n) 0 (λ i lt.
    let in' : i < n = omega (arith, lt, length-range_with_len 0 n) in
    let e : get_or (range_with_len 0 n) i 0 ≡ 0 + i = get_or-range_with_len 0 n i 0 in' in
    omega (arith, in', e))

pub broken_exactly : BrokenExactly
broken_exactly f s =
    let test = is_broken f s in
    let all = range_with_len 0 (restriction_count f) in (
      IsStrictlyIncreasing-filter test all (range_ascends 0 (restriction_count f)),
      λ n. (
        λ has. (
          All-contains (λ k. k < restriction_count f) (filter test all) n (All-filter test (λ k. k < restriction_count f) all (range_below (restriction_count f))) has,
          fails (restriction_holds (lessened s.withdrawn f) s.table n) (All-contains (λ k. test k ≡ true) (filter test all) n (filter_passes test all) has),
        ),
        λ both. contains_filter test n all (not_from_false (restriction_holds (lessened s.withdrawn f) s.table n) both.1) (in_range (restriction_count f) n both.0),
      ),
    )
  where
    fails : (b : Bool) → not b ≡ true → b ≡ false
    fails true e = absurd cc
    fails false e = refl

-- ---- a lessened fleet

pub lessened_fits : LessenedFits
lessened_fits f withdrawn flat = fleet_fits f withdrawn flat

-- ---- nothing broken

none_first : (test : ℕ → Bool) (x : ℕ) (rest : List ℕ) (later : Option ℕ) (b : Bool) → (rest ≡ [] → later ≡ None) → cond b (x ∷ rest) rest ≡ [] → cond b (Some x) later ≡ None
none_first test x rest later true more e = absurd cc
none_first test x rest later false more e = more e

first_none : (test : ℕ → Bool) (x : ℕ) (rest : List ℕ) (later : Option ℕ) (b : Bool) → (later ≡ None → rest ≡ []) → cond b (Some x) later ≡ None → cond b (x ∷ rest) rest ≡ []
first_none test x rest later true more e = absurd cc
first_none test x rest later false more e = more e

to_find : (test : ℕ → Bool) (xs : List ℕ) → filter test xs ≡ [] → find test xs ≡ None
to_find test [] e = refl
to_find test (x ∷ xs) e = none_first test x (filter test xs) (find test xs) (test x) (to_find test xs) e

to_filter : (test : ℕ → Bool) (xs : List ℕ) → find test xs ≡ None → filter test xs ≡ []
to_filter test [] e = refl
to_filter test (x ∷ xs) e = first_none test x (filter test xs) (find test xs) (test x) (to_filter test xs) e

pub none_broken : NoneBroken
none_broken f s is =
    let g = lessened s.withdrawn f in
    let count : restriction_count g ≡ restriction_count f = ap (λ n. f.ships + n) (length-map f.rules (lessened_rule s.withdrawn)) in
    let test = λ (n : ℕ). not (restriction_holds g s.table n) in
    let range : range_with_len 0 (restriction_count g) ≡ range_with_len 0 (restriction_count f) = ap (range_with_len 0) count in (
      λ none. permits_from g s.table (record { each_ship = is.each_ship; each_slot = is.each_slot }) (ap (find test) range ∙ to_find test (range_with_len 0 (restriction_count f)) none),
      λ permits. to_filter test (range_with_len 0 (restriction_count f)) (sym (ap (find test) range) ∙ from_permits g s.table permits),
    )

pub none_broken_first : NoneBrokenFirst
none_broken_first f table is =
    let both = none_broken f (watched table) is in
    (λ none. subst (λ g. Permits g table) (same_problem f) (both.0 none), λ permits. both.1 (subst (λ g. Permits g table) (sym (same_problem f)) permits))
