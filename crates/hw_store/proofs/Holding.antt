-- Clauses by number.
use Rattle.std.proofs.Common.{◌≡◌, ◌≢◌, ◌⊎◌, ℕ, ◌+◌, ◌<◌, ◌≤◌, List, [], ◌∷◌, ◌++◌, length, take, get_or, refl, sym, ap, ◌∙◌, subst, arith, All, inl, inr, length-append, zero, suc}
use Rattle.std.proofs.lemmas.List.Elements.{All-push, All-more}
use Rattle.std.proofs.lemmas.List.{get_or_append_left, get_or_push, get_or_default, take_all}
use Rattle.std.proofs.lemmas.Bool.{cases_eq}
use Rattle.hw_model.specs.Lits.{IsLitOf}
use Rattle.hw_store.specs.declared.store.Stored.{Stored}
use Rattle.hw_store.specs.Stores.{StoredAscend, KeepsClauses, IsClauseOf}

pub ascends_more : (held : List Stored) (one : Stored) → StoredAscend held → All (λ (s : Stored). s.number < one.number) held → StoredAscend (held ++ one ∷ [])
ascends_more held one a h i j d lt lt2 = elim (cases_eq j (length held)) [
  | inl e ↦ (
      let left : i < length held = omega (arith, lt, e) in
      let x : get_or (held ++ one ∷ []) i d ≡ get_or held i d = get_or_append_left held (one ∷ []) d i left in
      let y : get_or (held ++ one ∷ []) j d ≡ one = get_or_push held one d j (sym e) in
      subst (λ (s : Stored). s.number < (get_or (held ++ one ∷ []) j d).number) (sym x) (subst (λ (s : Stored). (get_or held i d).number < s.number) (sym y) (h i d left)))
  | inr n ↦ (
      let long = length-append held (one ∷ []) in
      let right : j < length held = omega (arith, lt2, long, n) in
      let left : i < length held = omega (arith, lt, right) in
      let x : get_or (held ++ one ∷ []) i d ≡ get_or held i d = get_or_append_left held (one ∷ []) d i left in
      let y : get_or (held ++ one ∷ []) j d ≡ get_or held j d = get_or_append_left held (one ∷ []) d j right in
      subst (λ (s : Stored). s.number < (get_or (held ++ one ∷ []) j d).number) (sym x) (subst (λ (s : Stored). (get_or held i d).number < s.number) (sym y) (a i j d lt right)))
]

pub keeps_more : (ships : ℕ) (held : List Stored) (one : Stored) → KeepsClauses ships held → All (λ (s : Stored). s.number < one.number) held → All (IsLitOf ships) one.clause → KeepsClauses ships (held ++ one ∷ [])
keeps_more ships held one k h f = record {
  fits = All-push (λ (s : Stored). All (IsLitOf ships) s.clause) held one k.fits f;
  ascends = ascends_more held one k.ascends h;
}

below_or_above : (k p : ℕ) → k ≢ p → (k < p) ⊎ (p < k)
below_or_above zero zero n = absurd (n refl)
below_or_above zero (suc p) n = inl (omega arith)
below_or_above (suc k) zero n = inr (omega arith)
below_or_above (suc k) (suc p) n = elim (below_or_above k p (λ e. n (ap suc e))) [
  | inl l ↦ inl (omega (arith, l))
  | inr l ↦ inr (omega (arith, l))
]

-- the clause at a place is the only one of its number
pub only_one : (held : List Stored) (place : ℕ) (one : Stored) → StoredAscend held → place < length held → one ≡ get_or held place one → IsClauseOf held one.number one.clause
only_one held place one a lt e = (
  (place, lt, sym e),
  λ k d inside same. elim (cases_eq k place) [
    | inl q ↦ ap (λ (s : Stored). s.clause) (ap (λ n. get_or held n d) q ∙ get_or_default held place d one lt ∙ sym e)
    | inr n ↦ absurd (apart k d inside n same)
  ],
)
  where
    at : (d : Stored) → (get_or held place d).number ≡ one.number
    at d = ap (λ (s : Stored). s.number) (get_or_default held place d one lt ∙ sym e)

    apart : (k : ℕ) (d : Stored) → k < length held → k ≢ place → (get_or held k d).number ≡ one.number → ⊥
    apart k d inside n same = elim (below_or_above k place n) [
      | inl p ↦ (let h = a k place d p lt in let h2 = at d in omega (arith, h, h2, same))
      | inr p ↦ (let h = a place k d p inside in let h2 = at d in omega (arith, h, h2, same))
    ]

-- ---- passes over the clauses

pub all_more : (P : Stored → Type 0) (held : List Stored) (place : ℕ) (one : Stored) → place < length held → one ≡ get_or held place one → All P (take place held) → P one → All P (take (place + 1) held)
all_more P held place one lt e h p = All-more P held place one lt h (subst P e p)

pub all_whole : (P : Stored → Type 0) (held : List Stored) (place : ℕ) → length held ≤ place → All P (take place held) → All P held
all_whole P held place le h = subst (All P) (take_all place held le) h

-- ---- a search by halves

-- the numbers up to a place are below, from a place on above
abbrev pub AllBelow : List Stored → ℕ → ℕ → Type 0
AllBelow held id n = (i : ℕ) (d : Stored) → i < n → i < length held → (get_or held i d).number < id

abbrev pub AllAbove : List Stored → ℕ → ℕ → Type 0
AllAbove held id n = (i : ℕ) (d : Stored) → n ≤ i → i < length held → id < (get_or held i d).number

read_at : (held : List Stored) (m : ℕ) (one : Stored) → m < length held → one ≡ get_or held m one → (d : Stored) → (get_or held m d).number ≡ one.number
read_at held m one lt e d = ap (λ (s : Stored). s.number) (get_or_default held m d one lt ∙ sym e)

pub below_half : (held : List Stored) (id m : ℕ) (one : Stored) → StoredAscend held → m < length held → one ≡ get_or held m one → one.number < id → AllBelow held id (m + 1)
below_half held id m one a lt e less i d lt2 inside = elim (cases_eq i m) [
  | inl q ↦ (let r = read_at held m one lt e d in subst (λ n. (get_or held n d).number < id) (sym q) (omega (arith, r, less)))
  | inr n ↦ (let r = read_at held m one lt e d in let up = a i m d (omega (arith, lt2, n)) lt in omega (arith, r, less, up))
]

pub above_half : (held : List Stored) (id m : ℕ) (one : Stored) → StoredAscend held → m < length held → one ≡ get_or held m one → id < one.number → AllAbove held id m
above_half held id m one a lt e more i d le inside = elim (cases_eq i m) [
  | inl q ↦ (let r = read_at held m one lt e d in subst (λ n. id < (get_or held n d).number) (sym q) (omega (arith, r, more)))
  | inr n ↦ (let r = read_at held m one lt e d in let up = a m i d (omega (arith, le, n)) inside in omega (arith, r, more, up))
]
