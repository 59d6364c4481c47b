-- What terms add at a point of which a ship has one slot.
use Rattle.std.proofs.Common.{◌≡◌, ℕ, zero, suc, ◌+◌, ◌-◌, ◌<◌, ◌≤◌, Bool, true, false, cond, nat_eq, [], ◌∷◌, Option, Some, None, is_some, IsSome, unwrap_or, refl, sym, ◌∙◌, ap, subst, arith, inl, inr, ◌⊎◌}
use Rattle.std.proofs.lemmas.Bool.{cases_eq, cases_lt, eq-eqb, ne_eqb}
use Rattle.hw_model.specs.Problem.{Problem, value_at}
use Rattle.hw_flat_programme.specs.declared.format.Format.{Format}
use Rattle.hw_flat_programme.specs.declared.span.Span.{Span}
use Rattle.hw_flat_programme.specs.Programmes.{Point, total}
use Rattle.hw_flat_programme.specs.Rows.{term_at, terms_from, span_terms, terms_of, counts, most, value_term, value_terms, SpanFits}
use Rattle.hw_flat_programme.proofs.Sums.{total-append}

-- of the ship's variables this slot's is 1 at the point, and its others are 0
pub record Sits (f : Problem) (p : Point) (ship x : ℕ) : Type 0 where
  pub slot_in : x < f.slots
  pub sails : IsSome (value_at f ship x)
  pub point : (slot : ℕ) → slot < f.slots → IsSome (value_at f ship slot) → p ship slot ≡ nat_eq x slot

no_other : (o : ℕ → Option ℕ) (x slot : ℕ) → is_some (o x) ≡ true → is_some (o slot) ≡ false → x ≡ slot → ⊥
no_other o x slot some none e =
    let here : is_some (o slot) ≡ true = subst (λ (n : ℕ). is_some (o n) ≡ true) e some in
    absurd cc

-- ---- spans

-- what the term of a slot adds
at_slot : (f : Problem) (p : Point) (ship x weight slot : ℕ) → Sits f p ship x → slot < f.slots → total p (term_at f weight ship slot) ≡ cond (nat_eq x slot) weight 0
at_slot f p ship x weight slot sits lt = by (is_some (value_at f ship slot)) refl
  where
    by : (b : Bool) → is_some (value_at f ship slot) ≡ b → total p (cond b (record { weight = weight; ship = ship; slot = slot } ∷ []) []) ≡ cond (nat_eq x slot) weight 0
    by true e =
        let same : cond (p ship slot) weight 0 ≡ cond (nat_eq x slot) weight 0 = ap (λ (b : Bool). cond b weight 0) (sits.point slot lt e) in
        omega (arith, same)
    by false e =
        let none : nat_eq x slot ≡ false = ne_eqb x slot (no_other (value_at f ship) x slot sits.sails e) in
        sym (ap (λ (b : Bool). cond b weight 0) none)

at_own : (f : Problem) (p : Point) (ship x weight slot : ℕ) → Sits f p ship x → slot < f.slots → x ≡ slot → total p (term_at f weight ship slot) ≡ weight
at_own f p ship x weight slot sits lt e = at_slot f p ship x weight slot sits lt ∙ ap (λ (b : Bool). cond b weight 0) (eq-eqb x slot e)

at_other : (f : Problem) (p : Point) (ship x weight slot : ℕ) → Sits f p ship x → slot < f.slots → (x ≡ slot → ⊥) → total p (term_at f weight ship slot) ≡ 0
at_other f p ship x weight slot sits lt ne = at_slot f p ship x weight slot sits lt ∙ ap (λ (b : Bool). cond b weight 0) (ne_eqb x slot ne)

-- a range of slots
abbrev pub IsWithin : Problem → ℕ → ℕ → Type 0
IsWithin f slot count = (k : ℕ) → slot ≤ k → k < slot + count → k < f.slots

within_rest : (f : Problem) (slot more : ℕ) → IsWithin f slot (suc more) → IsWithin f (slot + 1) more
within_rest f slot more h = λ k le lt. h k (omega (arith, le)) (omega (arith, lt))

outside : (f : Problem) (p : Point) (ship x weight slot count : ℕ) → Sits f p ship x → IsWithin f slot count → (x < slot) ⊎ (slot + count ≤ x) → total p (terms_from f weight ship slot count) ≡ 0
outside f p ship x weight slot zero sits within out = refl
outside f p ship x weight slot (suc more) sits within out =
    let rest : total p (terms_from f weight ship (slot + 1) more) ≡ 0 = outside f p ship x weight (slot + 1) more sits (within_rest f slot more within) (further out) in
    let here : total p (term_at f weight ship slot) ≡ 0 = at_other f p ship x weight slot sits (within slot (omega arith) (omega arith)) (not_here out) in
    omega (arith, total-append p (term_at f weight ship slot) (terms_from f weight ship (slot + 1) more), rest, here)
  where
    further : (x < slot) ⊎ (slot + suc more ≤ x) → (x < slot + 1) ⊎ ((slot + 1) + more ≤ x)
    further (inl lt) = inl (omega (arith, lt))
    further (inr le) = inr (omega (arith, le))

    not_here : (x < slot) ⊎ (slot + suc more ≤ x) → x ≡ slot → ⊥
    not_here (inl lt) e = omega (arith, lt, e)
    not_here (inr le) e = omega (arith, le, e)

inside : (f : Problem) (p : Point) (ship x weight slot count : ℕ) → Sits f p ship x → IsWithin f slot count → slot ≤ x → x < slot + count → total p (terms_from f weight ship slot count) ≡ weight
inside f p ship x weight slot zero sits within le lt = absurd (omega (arith, le, lt))
inside f p ship x weight slot (suc more) sits within le lt =
    let both = total-append p (term_at f weight ship slot) (terms_from f weight ship (slot + 1) more) in
    let slot_in : slot < f.slots = within slot (omega arith) (omega arith) in
    elim (cases_eq x slot) [
      | inl same ↦
          let here : total p (term_at f weight ship slot) ≡ weight = at_own f p ship x weight slot sits slot_in same in
          let rest : total p (terms_from f weight ship (slot + 1) more) ≡ 0 = outside f p ship x weight (slot + 1) more sits (within_rest f slot more within) (inl (omega (arith, same))) in
          omega (arith, both, rest, here)
      | inr ne ↦
          let here : total p (term_at f weight ship slot) ≡ 0 = at_other f p ship x weight slot sits slot_in ne in
          let rest : total p (terms_from f weight ship (slot + 1) more) ≡ weight = inside f p ship x weight (slot + 1) more sits (within_rest f slot more within) (later slot x le ne) (omega (arith, lt)) in
          omega (arith, both, rest, here)
    ]
  where
    later : (slot x : ℕ) → slot ≤ x → (x ≡ slot → ⊥) → slot + 1 ≤ x
    later slot x le ne = grind arith

span_within : (f : Problem) (span : Span) → SpanFits f span → IsWithin f span.from (span.to - span.from)
span_within f span fits = λ k le lt. omega (arith, fits.slots_in, le, lt)

-- the slot is one of the span
abbrev pub IsIn : ℕ → Span → Type 0
IsIn x span = (span.from ≤ x) × (x < span.to)

pub in_span : (f : Problem) (p : Point) (x : ℕ) (span : Span) → SpanFits f span → Sits f p span.ship x → IsIn x span → total p (span_terms f span) ≡ span.weight
in_span f p x span fits sits i = inside f p span.ship x span.weight span.from (span.to - span.from) sits (span_within f span fits) i.0 (omega (arith, i.0, i.1))

pub not_in_span : (f : Problem) (p : Point) (x : ℕ) (span : Span) → SpanFits f span → Sits f p span.ship x → (IsIn x span → ⊥) → total p (span_terms f span) ≡ 0
not_in_span f p x span fits sits out = outside f p span.ship x span.weight span.from (span.to - span.from) sits (span_within f span fits) (before_or_past (cases_lt x span.from) (cases_lt x span.to))
  where
    before_or_past : (x < span.from) ⊎ (span.from ≤ x) → (x < span.to) ⊎ (span.to ≤ x) → (x < span.from) ⊎ (span.from + (span.to - span.from) ≤ x)
    before_or_past (inl lt) either = inl lt
    before_or_past (inr le) (inl lt) = absurd (out (le, lt))
    before_or_past (inr le) (inr past) = inr (omega (arith, le, past))

-- a slot is one of a span or not
pub in_or_not : (x : ℕ) (span : Span) → IsIn x span ⊎ (IsIn x span → ⊥)
in_or_not x span = by (cases_lt x span.from) (cases_lt x span.to)
  where
    by : (x < span.from) ⊎ (span.from ≤ x) → (x < span.to) ⊎ (span.to ≤ x) → IsIn x span ⊎ (IsIn x span → ⊥)
    by (inl lt) either = inr (λ i. omega (arith, lt, i.0))
    by (inr le) (inl lt) = inl (le, lt)
    by (inr le) (inr past) = inr (λ i. omega (arith, past, i.1))

-- ---- two spans of weight 1

pub record AreTwo (f : Problem) (p : Point) (x y : ℕ) (a b : Span) : Type 0 where
  pub first_fits : SpanFits f a
  pub second_fits : SpanFits f b
  pub first_sits : Sits f p a.ship x
  pub second_sits : Sits f p b.ship y
  pub first_one : a.weight ≡ 1
  pub second_one : b.weight ≡ 1

two_total : (f : Problem) (p : Point) (a b : Span) → total p (terms_of f (a ∷ b ∷ [])) ≡ total p (span_terms f a) + total p (span_terms f b)
two_total f p a b =
    let first = total-append p (span_terms f a) (terms_of f (b ∷ [])) in
    let second = total-append p (span_terms f b) (terms_of f []) in
    omega (arith, first, second)

pub two_hold : (f : Problem) (p : Point) (x y : ℕ) (a b : Span) → AreTwo f p x y a b → (IsIn x a → IsIn y b → ⊥) → total p (terms_of f (a ∷ b ∷ [])) ≤ 1
two_hold f p x y a b two apart = by (in_or_not x a) (in_or_not y b)
  where
    by : IsIn x a ⊎ (IsIn x a → ⊥) → IsIn y b ⊎ (IsIn y b → ⊥) → total p (terms_of f (a ∷ b ∷ [])) ≤ 1
    by (inl i) (inl j) = absurd (apart i j)
    by (inl i) (inr n) = omega (arith, two_total f p a b, in_span f p x a two.first_fits two.first_sits i, two.first_one, not_in_span f p y b two.second_fits two.second_sits n)
    by (inr n) (inl j) = omega (arith, two_total f p a b, in_span f p y b two.second_fits two.second_sits j, two.second_one, not_in_span f p x a two.first_fits two.first_sits n)
    by (inr n) (inr m) = omega (arith, two_total f p a b, not_in_span f p x a two.first_fits two.first_sits n, not_in_span f p y b two.second_fits two.second_sits m)

pub two_apart : (f : Problem) (p : Point) (x y : ℕ) (a b : Span) → AreTwo f p x y a b → total p (terms_of f (a ∷ b ∷ [])) ≤ 1 → IsIn x a → IsIn y b → ⊥
two_apart f p x y a b two le i j = omega (arith, le, two_total f p a b, in_span f p x a two.first_fits two.first_sits i, two.first_one, in_span f p y b two.second_fits two.second_sits j, two.second_one)

-- ---- values

at_value : (format : Format) (f : Problem) (p : Point) (ship x top slot : ℕ) → Sits f p ship x → slot < f.slots → total p (value_term format top ship slot (value_at f ship slot)) ≡ cond (nat_eq x slot) (counts format top (unwrap_or (value_at f ship slot) 0)) 0
at_value format f p ship x top slot sits lt = by (value_at f ship slot) refl
  where
    by : (o : Option ℕ) → value_at f ship slot ≡ o → total p (value_term format top ship slot o) ≡ cond (nat_eq x slot) (counts format top (unwrap_or o 0)) 0
    by None e =
        let none : nat_eq x slot ≡ false = ne_eqb x slot (no_other (value_at f ship) x slot sits.sails (ap is_some e)) in
        sym (ap (λ (b : Bool). cond b (counts format top 0) 0) none)
    by (Some v) e =
        let same : cond (p ship slot) (counts format top v) 0 ≡ cond (nat_eq x slot) (counts format top v) 0 = ap (λ (b : Bool). cond b (counts format top v) 0) (sits.point slot lt (ap is_some e)) in
        omega (arith, same)

values_outside : (format : Format) (f : Problem) (p : Point) (ship x slot count : ℕ) → Sits f p ship x → IsWithin f slot count → x < slot → total p (value_terms format f ship slot count) ≡ 0
values_outside format f p ship x slot zero sits within out = refl
values_outside format f p ship x slot (suc more) sits within out =
    let rest : total p (value_terms format f ship (slot + 1) more) ≡ 0 = values_outside format f p ship x (slot + 1) more sits (within_rest f slot more within) (omega (arith, out)) in
    let none : nat_eq x slot ≡ false = ne_eqb x slot (less x slot out) in
    let here : total p (value_term format (most f ship) ship slot (value_at f ship slot)) ≡ 0 = at_value format f p ship x (most f ship) slot sits (within slot (omega arith) (omega arith)) ∙ ap (λ (b : Bool). cond b (counts format (most f ship) (unwrap_or (value_at f ship slot) 0)) 0) none in
    omega (arith, total-append p (value_term format (most f ship) ship slot (value_at f ship slot)) (value_terms format f ship (slot + 1) more), rest, here)
  where
    less : (a b : ℕ) → a < b → a ≡ b → ⊥
    less a b lt e = omega (arith, lt, e)

pub values_inside : (format : Format) (f : Problem) (p : Point) (ship x slot count : ℕ) → Sits f p ship x → IsWithin f slot count → slot ≤ x → x < slot + count → total p (value_terms format f ship slot count) ≡ counts format (most f ship) (unwrap_or (value_at f ship x) 0)
values_inside format f p ship x slot zero sits within le lt = absurd (omega (arith, le, lt))
values_inside format f p ship x slot (suc more) sits within le lt =
    let both = total-append p (value_term format (most f ship) ship slot (value_at f ship slot)) (value_terms format f ship (slot + 1) more) in
    let own = at_value format f p ship x (most f ship) slot sits (within slot (omega arith) (omega arith)) in
    elim (cases_eq x slot) [
      | inl same ↦
          let here : total p (value_term format (most f ship) ship slot (value_at f ship slot)) ≡ counts format (most f ship) (unwrap_or (value_at f ship slot) 0) = own ∙ ap (λ (b : Bool). cond b (counts format (most f ship) (unwrap_or (value_at f ship slot) 0)) 0) (eq-eqb x slot same) in
          let that : counts format (most f ship) (unwrap_or (value_at f ship slot) 0) ≡ counts format (most f ship) (unwrap_or (value_at f ship x) 0) = ap (λ (n : ℕ). counts format (most f ship) (unwrap_or (value_at f ship n) 0)) (sym same) in
          let rest : total p (value_terms format f ship (slot + 1) more) ≡ 0 = values_outside format f p ship x (slot + 1) more sits (within_rest f slot more within) (omega (arith, same)) in
          omega (arith, both, rest, here, that)
      | inr ne ↦
          let here : total p (value_term format (most f ship) ship slot (value_at f ship slot)) ≡ 0 = own ∙ ap (λ (b : Bool). cond b (counts format (most f ship) (unwrap_or (value_at f ship slot) 0)) 0) (ne_eqb x slot ne) in
          let rest : total p (value_terms format f ship (slot + 1) more) ≡ counts format (most f ship) (unwrap_or (value_at f ship x) 0) = values_inside format f p ship x (slot + 1) more sits (within_rest f slot more within) (later slot x le ne) (omega (arith, lt)) in
          omega (arith, both, rest, here)
    ]
  where
    later : (slot x : ℕ) → slot ≤ x → (x ≡ slot → ⊥) → slot + 1 ≤ x
    later slot x le ne = grind arith
