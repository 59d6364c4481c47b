-- The buckets in whose lists a clause's place is known to stand.
use Rattle.std.proofs.Common.{◌≡◌, ◌≢◌, ◌⊎◌, ℕ, zero, suc, ◌+◌, ◌<◌, ◌≤◌, ◌==◌, ◌||◌, Bool, true, false, Some, List, [], ◌∷◌, ◌++◌, length, take, get_or, set, refl, sym, ap, ◌∙◌, subst, arith, Contains, inl, inr, get_or-set_same, get_or-set_other, get_or-take, length-take-le}
use Rattle.std.proofs.lemmas.List.{get_or_default}
use Rattle.std.proofs.lemmas.Bool.{cases_eq, eqb-true}
use Rattle.hw_lemmas.proofs.Truths.{not_true}
use Rattle.hw_store.specs.declared.watching.Buckets.{Buckets}
use Rattle.hw_store.specs.Watches.{is_among, nowhere, StandsInBuckets, KeepsBuckets, Forgets, Leaves, GainsPlace}

false_true : false ≡ true → ⊥
false_true e = cc

-- ---- one record

either : (a b : Bool) → a || b ≡ true → (a ≡ true) ⊎ (b ≡ true)
either true b e = inl refl
either false b e = inr e

-- ---- all records

pub forgets_twice : (a b c : List Buckets) → Forgets a b → Forgets b c → Forgets a c
forgets_twice a b c f g = record { same_length = g.same_length ∙ f.same_length; only = λ i n e. f.only i n (g.only i n e) }

-- what is known stays so where places are forgotten
pub forgotten : (lists : List (List ℕ)) (a b : List Buckets) → Forgets a b → KeepsBuckets lists a → KeepsBuckets lists b
forgotten lists a b f k i n e = k i n (f.only i n e)

pub grown : (place : ℕ) (old new : List (List ℕ)) (stands : List Buckets) → GainsPlace place old new → KeepsBuckets old stands → KeepsBuckets new stands
grown place old new stands g k i n e = g.kept n i (k i n e)

pub both_stand : (lists : List (List ℕ)) (place a b : ℕ) → Contains (get_or lists a []) place → Contains (get_or lists b []) place → StandsInBuckets lists place (record { first = Some a; second = Some b })
both_stand lists place a b x y n e = elim (either (a == n) (b == n) e) [
  | inl q ↦ subst (λ m. Contains (get_or lists m []) place) (eqb-true a n q) x
  | inr q ↦ subst (λ m. Contains (get_or lists m []) place) (eqb-true b n q) y
]

pub stand_at : (lists : List (List ℕ)) (stands : List Buckets) (place : ℕ) (buckets : Buckets) → place < length stands → KeepsBuckets lists stands → StandsInBuckets lists place buckets → KeepsBuckets lists (set stands place buckets)
stand_at lists stands place buckets lt k h i n e = elim (cases_eq i place) [
  | inl q ↦ subst (λ m. Contains (get_or lists n []) m) (sym q) (h n (subst (λ x. is_among x n ≡ true) (ap (λ m. get_or (set stands place buckets) m nowhere) q ∙ get_or-set_same stands place buckets nowhere lt) e))
  | inr q ↦ k i n (subst (λ x. is_among x n ≡ true) (get_or-set_other stands place i buckets nowhere q) e)
]

pub stand_more : (lists : List (List ℕ)) (stands : List Buckets) → KeepsBuckets lists stands → KeepsBuckets lists (stands ++ nowhere ∷ [])
stand_more lists stands k i n e = k i n (subst (λ x. is_among x n ≡ true) (pushed stands i) e)
  where
    pushed : (xs : List Buckets) (i : ℕ) → get_or (xs ++ nowhere ∷ []) i nowhere ≡ get_or xs i nowhere
    pushed [] zero = refl
    pushed [] (suc i) = refl
    pushed (x ∷ xs) zero = refl
    pushed (x ∷ xs) (suc i) = pushed xs i

-- ---- a list gone through

-- up to a place of the old list, each stays among the first `kept` of the new one, or isn't known to stand there
abbrev pub Leaving : ℕ → List Buckets → List ℕ → List ℕ → ℕ → ℕ → Type 0
Leaving bucket stands old now at kept = (i : ℕ) → i < at → ((j : ℕ) × (j < kept) × (get_or now j 0 ≡ get_or old i 0)) ⊎ (is_among (get_or stands (get_or old i 0) nowhere) bucket ≡ false)

pub leave_keeps : (bucket : ℕ) (stands : List Buckets) (old now : List ℕ) (at kept : ℕ) → kept < length now → Leaving bucket stands old now at kept → Leaving bucket stands old (set now kept (get_or old at 0)) (at + 1) (kept + 1)
leave_keeps bucket stands old now at kept within h i lt = elim (cases_eq i at) [
  | inl e ↦ inl (kept, omega arith, get_or-set_same now kept (get_or old at 0) 0 within ∙ ap (λ n. get_or old n 0) (sym e))
  | inr n ↦ elim (h i (omega (arith, lt, n))) [
    | inl o ↦ (
        let ne : o.0 ≢ kept = omega (arith, o.1) in
        inl (o.0, omega (arith, o.1), get_or-set_other now kept o.0 (get_or old at 0) 0 ne ∙ o.2))
    | inr g ↦ inr g
  ]
]

gone_still : (a b : List Buckets) (p bucket : ℕ) → Forgets a b → is_among (get_or a p nowhere) bucket ≡ false → is_among (get_or b p nowhere) bucket ≡ false
gone_still a b p bucket f g = not_true (is_among (get_or b p nowhere) bucket) (λ e. false_true (sym g ∙ f.only p bucket e))

pub leave_passes : (bucket : ℕ) (a b : List Buckets) (old now : List ℕ) (at kept : ℕ) → Forgets a b → is_among (get_or b (get_or old at 0) nowhere) bucket ≡ false → Leaving bucket a old now at kept → Leaving bucket b old now (at + 1) kept
leave_passes bucket a b old now at kept f g h i lt = elim (cases_eq i at) [
  | inl e ↦ inr (subst (λ n. is_among (get_or b (get_or old n 0) nowhere) bucket ≡ false) (sym e) g)
  | inr n ↦ elim (h i (omega (arith, lt, n))) [
    | inl o ↦ inl o
    | inr q ↦ inr (gone_still a b (get_or old i 0) bucket f q)
  ]
]

-- so too where more is forgotten
pub leaving_on : (bucket : ℕ) (a b : List Buckets) (old now : List ℕ) (at kept : ℕ) → Forgets a b → Leaving bucket a old now at kept → Leaving bucket b old now at kept
leaving_on bucket a b old now at kept f h i lt = elim (h i lt) [
  | inl o ↦ inl o
  | inr q ↦ inr (gone_still a b (get_or old i 0) bucket f q)
]

pub leave_ends : (bucket : ℕ) (stands : List Buckets) (old now : List ℕ) (at kept : ℕ) → Leaving bucket stands old now at kept → at ≡ length old → kept ≤ length now → Leaves bucket stands old (take kept now)
leave_ends bucket stands old now at kept h end few = record {
  each = λ p c. elim (h c.0 (omega (arith, c.1, end))) [
    | inl o ↦ inl (o.0, omega (arith, o.1, short), get_or-take kept now o.0 p o.1 ∙ get_or_default now o.0 p 0 (omega (arith, o.1, few)) ∙ o.2 ∙ held p c)
    | inr g ↦ inr (subst (λ n. is_among (get_or stands n nowhere) bucket ≡ false) (held p c) g)
  ];
}
  where
    short : length (take kept now) ≡ kept
    short = length-take-le kept now few

    held : (p : ℕ) (c : Contains old p) → get_or old c.0 0 ≡ p
    held p c = get_or_default old c.0 0 p c.1 ∙ c.2

-- one list of all
pub leaves_one : (lists : List (List ℕ)) (bucket : ℕ) (new : List ℕ) (a b : List Buckets) → bucket < length lists → KeepsBuckets lists a → Forgets a b → Leaves bucket b (get_or lists bucket []) new → KeepsBuckets (set lists bucket new) b
leaves_one lists bucket new a b lt k f h i n e = elim (cases_eq n bucket) [
  | inl q ↦ (
      let e' : is_among (get_or b i nowhere) bucket ≡ true = subst (λ m. is_among (get_or b i nowhere) m ≡ true) q e in
      subst (λ l. Contains l i) (sym (ap (λ m. get_or (set lists bucket new) m []) q ∙ get_or-set_same lists bucket new [] lt)) (elim (h.each i (k i bucket (f.only i bucket e'))) [
        | inl x ↦ x
        | inr g ↦ absurd (false_true (sym g ∙ e'))
      ]))
  | inr ne ↦ subst (λ l. Contains l i) (sym (get_or-set_other lists bucket n new [] ne)) (k i n (f.only i n e))
]
