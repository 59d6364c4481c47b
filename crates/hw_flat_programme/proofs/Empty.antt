-- Ships without a value.
use Rattle.std.proofs.Common.{◌≡◌, ℕ, zero, suc, ◌+◌, ◌-◌, cond, List, [], ◌∷◌, ◌++◌, Option, Some, None, is_some, length, refl, subst, arith}
use Rattle.hw_model.specs.Problem.{Problem, value_at}
use Rattle.hw_flat_programme.specs.declared.format.Format.{Format}
use Rattle.hw_flat_programme.specs.Programmes.{Term, weight_of}
use Rattle.hw_flat_programme.specs.Rows.{terms_from, span_terms, whole_span, most, value_term, value_terms, ship_rows}

no_values : (format : Format) (f : Problem) (ship slot count : ℕ) → weight_of (terms_from f 1 ship slot count) ≡ 0 → value_terms format f ship slot count ≡ []
no_values format f ship slot zero e = refl
no_values format f ship slot (suc more) e = by (value_at f ship slot) (no_values format f ship (slot + 1) more) e
  where
    by : (o : Option ℕ) → (weight_of (terms_from f 1 ship (slot + 1) more) ≡ 0 → value_terms format f ship (slot + 1) more ≡ [])
        → weight_of (cond (is_some o) (record { weight = 1; ship = ship; slot = slot } ∷ []) [] ++ terms_from f 1 ship (slot + 1) more) ≡ 0 → value_term format (most f ship) ship slot o ++ value_terms format f ship (slot + 1) more ≡ []
    by None rest e = rest e
    by (Some v) rest e = absurd (omega (arith, e))

no_terms : (f : Problem) (ship slot count : ℕ) → weight_of (terms_from f 1 ship slot count) ≡ 0 → terms_from f 1 ship slot count ≡ []
no_terms f ship slot zero e = refl
no_terms f ship slot (suc more) e = by (value_at f ship slot) (no_terms f ship (slot + 1) more) e
  where
    by : (o : Option ℕ) → (weight_of (terms_from f 1 ship (slot + 1) more) ≡ 0 → terms_from f 1 ship (slot + 1) more ≡ [])
        → weight_of (cond (is_some o) (record { weight = 1; ship = ship; slot = slot } ∷ []) [] ++ terms_from f 1 ship (slot + 1) more) ≡ 0 → cond (is_some o) (record { weight = 1; ship = ship; slot = slot } ∷ []) [] ++ terms_from f 1 ship (slot + 1) more ≡ []
    by None rest e = rest e
    by (Some v) rest e = absurd (omega (arith, e))

no_weight : (format : Format) (f : Problem) (ship slot count : ℕ) → value_terms format f ship slot count ≡ [] → weight_of (terms_from f 1 ship slot count) ≡ 0
no_weight format f ship slot zero e = refl
no_weight format f ship slot (suc more) e = by (value_at f ship slot) (no_weight format f ship (slot + 1) more) e
  where
    by : (o : Option ℕ) → (value_terms format f ship (slot + 1) more ≡ [] → weight_of (terms_from f 1 ship (slot + 1) more) ≡ 0)
        → value_term format (most f ship) ship slot o ++ value_terms format f ship (slot + 1) more ≡ [] → weight_of (cond (is_some o) (record { weight = 1; ship = ship; slot = slot } ∷ []) [] ++ terms_from f 1 ship (slot + 1) more) ≡ 0
    by None rest e = rest e
    by (Some v) rest e = absurd (cc)

-- the ship has no term of weight 1, so no value and no term at all
pub without_value : (format : Format) (f : Problem) (ship : ℕ) → weight_of (span_terms f (whole_span f ship)) ≡ 0 → value_terms format f ship 0 f.slots ≡ []
without_value format f ship e = let all : f.slots - 0 ≡ f.slots = omega arith in subst (λ (n : ℕ). value_terms format f ship 0 n ≡ []) all (no_values format f ship 0 (f.slots - 0) e)

pub without_terms : (f : Problem) (ship : ℕ) → weight_of (span_terms f (whole_span f ship)) ≡ 0 → span_terms f (whole_span f ship) ≡ []
without_terms f ship e = no_terms f ship 0 (f.slots - 0) e

pub without_weight : (format : Format) (f : Problem) (ship : ℕ) → value_terms format f ship 0 f.slots ≡ [] → weight_of (span_terms f (whole_span f ship)) ≡ 0
without_weight format f ship e = let all : f.slots ≡ f.slots - 0 = omega arith in subst (λ (n : ℕ). weight_of (terms_from f 1 ship 0 n) ≡ 0) all (no_weight format f ship 0 f.slots e)

front_empty : (a b : List Term) → a ++ b ≡ [] → a ≡ []
front_empty [] b e = refl
front_empty (t ∷ ts) b e = absurd (cc)

-- a value in front is a value of all
pub front_some : (a b : List Term) → (a ≡ [] → ⊥) → a ++ b ≡ [] → ⊥
front_some a b some e = some (front_empty a b e)

pub length-ship_rows : (f : Problem) (ship count : ℕ) → length (ship_rows f ship count) ≡ count
length-ship_rows f ship zero = refl
length-ship_rows f ship (suc more) = omega (arith, length-ship_rows f (ship + 1) more)
