-- Which numbers are dropped, and which are kept.
use Rattle.std.proofs.Common.{Vec, Global, ◌≡◌, ◌≢◌, ℕ, ◌+◌, ◌<◌, ◌≤◌, Bool, true, false, not, List, ◌++◌, Result, Ok, Err, length, get_or, filter, map, take, sym, ap, ◌∙◌, subst, arith, inl, inr}
use Rattle.std.specs.Prelude.{◌==◌, Contains}
use Rattle.std.specs.List.{list_any}
use Rattle.std.specs.List.Sorted.{IsStrictlyIncreasing, IsBinarySearchResult}
use Rattle.std.specs.Ordering.{nat_cmp}
use Rattle.std.specs.Result.{IfOk, is_ok}
use Rattle.std.proofs.lemmas.Result.{IfOk-weaker}
use Rattle.hw_model.specs.declared.memory.NoMemory.{NoMemory}
use Rattle.std.proofs.lemmas.List.Kept.{AllPairs-from_increasing, IsStrictlyIncreasing-filter}
use Rattle.std.proofs.lemmas.List.Sorted.{searched}
use Rattle.std.proofs.lemmas.Bool.{cases_Bool, cases_lt, eqb-true, eq-eqb}
use Rattle.std.proofs.lemmas.List.{get_or_default, take_more, length-map, get_or-map}
use Rattle.std.proofs.lemmas.List.Elements.{All-map, All-weaker, Contains-push_cases, All-contains, filter_passes}
use Rattle.std.proofs.lemmas.List.Folds.{list_any_none, list_any_at}
use Rattle.hw_model.specs.declared.lit.Lit.{Lit}
use Rattle.hw_store.specs.declared.store.Stored.{Stored}
use Rattle.hw_store.specs.Stores.{IsNotHeld}
use Rattle.hw_search_laws.proofs.Backs.{contains_any, in_filter, from_filter, any_contains}

differs : (x y : ℕ) → x ≢ y → (x == y) ≡ false
differs x y ne = elim (cases_Bool (x == y)) [
  | inl t ↦ absurd (ne (eqb-true x y t))
  | inr f ↦ f
]

pub any_not : (xs : List ℕ) (n : ℕ) → (Contains xs n → ⊥) → list_any (λ x. x == n) xs ≡ false
any_not xs n h = elim (cases_Bool (list_any (λ x. x == n) xs)) [
  | inl t ↦ absurd (h (any_contains xs n t))
  | inr f ↦ f
]

pub none_stored : (held : List Stored) (id : ℕ) → IsNotHeld held id → list_any (λ n. n == id) (map (λ (one : Stored). one.number) held) ≡ false
none_stored held id h = list_any_none (λ n. n == id) (map (λ (one : Stored). one.number) held) (All-map (λ n. (n == id) ≡ false) (λ (one : Stored). one.number) held (All-weaker (λ (one : Stored). one.number ≢ id) (λ (one : Stored). (one.number == id) ≡ false) (λ one ne. differs one.number id ne) held h))

pub some_stored : (held : List Stored) (id : ℕ) (clause : List Lit) → Contains held (record { number = id; clause = clause }) → list_any (λ n. n == id) (map (λ (one : Stored). one.number) held) ≡ true
some_stored held id clause h =
    let d : Stored = record { number = id; clause = clause } in
    let at : get_or (map (λ (one : Stored). one.number) held) h.0 0 ≡ id = get_or-map (λ (one : Stored). one.number) held h.0 d 0 h.1 ∙ ap (λ (one : Stored). one.number) h.2 in
    list_any_at (λ n. n == id) (map (λ (one : Stored). one.number) held) h.0 0 (omega (arith, h.1, length-map held (λ (one : Stored). one.number))) (eq-eqb (get_or (map (λ (one : Stored). one.number) held) h.0 0) id at)

-- one more earlier number is none of these
pub apart_more : (numbers earlier : List ℕ) (i d : ℕ) → i < length earlier → (Contains numbers (get_or earlier i d) → ⊥) → ((n : ℕ) → Contains numbers n → Contains (take i earlier) n → ⊥) → (n : ℕ) → Contains numbers n → Contains (take (i + 1) earlier) n → ⊥
apart_more numbers earlier i d lt ne h n there here = elim (Contains-push_cases (take i earlier) (get_or earlier i d) n (subst (λ xs. Contains xs n) (take_more earlier i d lt) here)) [
  | inl old ↦ h n there old
  | inr same ↦ ne (subst (Contains numbers) (sym same) there)
]

-- what a filter keeps is in the list, and passes
pub kept_is : (p : ℕ → Bool) (xs : List ℕ) (n : ℕ) → Contains (filter p xs) n → p n ≡ true
kept_is p xs n h = All-contains (λ x. p x ≡ true) (filter p xs) n (filter_passes p xs) h

pub kept_in : (p : ℕ → Bool) (xs : List ℕ) (n : ℕ) → Contains (filter p xs) n → Contains xs n
kept_in p xs n h = any_contains xs n (from_filter p xs n (contains_any (filter p xs) n h)).1

pub passes_in : (p : ℕ → Bool) (xs : List ℕ) (n : ℕ) → p n ≡ true → Contains xs n → Contains (filter p xs) n
passes_in p xs n e h = any_contains (filter p xs) n (in_filter p xs n e (contains_any xs n h))

-- a binary search that found nothing tells that there is none
pub not_found : (xs : List ℕ) (x : ℕ) (r : Result ℕ ℕ) → IsBinarySearchResult (λ y. nat_cmp y x) xs r → IsStrictlyIncreasing xs → is_ok r ≡ false → Contains xs x → ⊥
not_found xs x (Ok i) found up e here = absurd cc
not_found xs x (Err i) found up e here =
    let rises : (a b : ℕ) → a ≤ b → b < length xs → get_or xs a 0 ≤ get_or xs b 0 = λ a b le lt. elim (cases_lt a b) [
      | inl less ↦ (let s = AllPairs-from_increasing xs up a b 0 less lt in omega (arith, s))
      | inr more ↦ (let same : a ≡ b = omega (arith, le, more) in subst (λ (k : ℕ). get_or xs a 0 ≤ get_or xs k 0) same (omega arith))
    ] in
    let s = searched xs x (Err i) found rises in
    let at : get_or xs here.0 0 ≡ x = get_or_default xs here.0 0 x here.1 ∙ here.2 in
    elim (cases_lt here.0 i) [
      | inl less ↦ (let lower = s.1 here.0 less in omega (arith, lower, at))
      | inr more ↦ (let higher = s.2 here.0 more here.1 in omega (arith, higher, at))
    ]

not_tells : (b : Bool) → not b ≡ true → b ≡ true → ⊥
not_tells true e f = cc
not_tells false e f = cc

-- what is said of the numbers that are dropped
pub record DropsNumbers (stored : List Stored) (earlier all ids : List ℕ) : Type 0 where
  pub ascends : IsStrictlyIncreasing ids
  pub holds : (n : ℕ) → Contains ids n → Contains all n
  pub unkept : (n : ℕ) → Contains ids n → Contains (map (λ (one : Stored). one.number) stored ++ earlier) n → ⊥
  pub each : (n : ℕ) → Contains all n → (Contains (map (λ (one : Stored). one.number) stored ++ earlier) n → ⊥) → Contains ids n

pub drops : (stored : List Stored) (earlier all numbers ids : List ℕ) → IsStrictlyIncreasing numbers → ((n : ℕ) → Contains numbers n → Contains all n) → ((n : ℕ) → Contains all n → Contains numbers n)
    → ids ≡ filter (λ n. not (list_any (λ k. k == n) (map (λ (one : Stored). one.number) stored ++ earlier))) numbers → DropsNumbers stored earlier all ids
drops stored earlier all numbers ids up in' of e =
    let keeps = map (λ (one : Stored). one.number) stored ++ earlier in
    let p : ℕ → Bool = λ n. not (list_any (λ k. k == n) keeps) in
    record {
      ascends = subst IsStrictlyIncreasing (sym e) (IsStrictlyIncreasing-filter p numbers up);
      holds = λ n h. in' n (kept_in p numbers n (subst (λ xs. Contains xs n) e h));
      unkept = λ n h k. not_tells (list_any (λ k. k == n) keeps) (kept_is p numbers n (subst (λ xs. Contains xs n) e h)) (contains_any keeps n k);
      each = λ n h no. subst (λ xs. Contains xs n) (sym e) (passes_in p numbers n (ap not (any_not keeps n no)) (of n h));
    }

pub drops_result : (r : Result (Vec ℕ Global) NoMemory) (stored : List Stored) (earlier before all numbers given : List ℕ) → given ≡ numbers → before ≡ earlier → IsStrictlyIncreasing numbers → ((n : ℕ) → Contains numbers n → Contains all n) → ((n : ℕ) → Contains all n → Contains numbers n)
    → IfOk r (λ ids. ids.items ≡ filter (λ n. not (list_any (λ k. k == n) (map (λ (one : Stored). one.number) stored ++ before))) given) → IfOk r (λ ids. DropsNumbers stored earlier all ids.items)
drops_result r stored earlier before all numbers given same_numbers same_before up in' of h =
    IfOk-weaker r (λ ids. ids.items ≡ filter (λ n. not (list_any (λ k. k == n) (map (λ (one : Stored). one.number) stored ++ before))) given) (λ ids. DropsNumbers stored earlier all ids.items)
    (λ ids e. drops stored earlier all numbers ids.items up in' of (e ∙ ap (λ (xs : List ℕ). filter (λ n. not (list_any (λ k. k == n) (map (λ (one : Stored). one.number) stored ++ xs))) given) same_before ∙ ap (filter (λ n. not (list_any (λ k. k == n) (map (λ (one : Stored). one.number) stored ++ earlier)))) same_numbers)) h
