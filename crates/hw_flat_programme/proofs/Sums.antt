-- Sums of terms at a point, and rows that bound them.
use Rattle.std.proofs.Common.{◌≡◌, ℕ, zero, suc, ◌+◌, ◌<◌, ◌≤◌, Bool, true, false, cond, nat_lt, List, [], ◌∷◌, ◌++◌, refl, subst, arith, inl, inr}
use Rattle.std.proofs.lemmas.Bool.{ltb-false, cases_eq}
use Rattle.hw_lemmas.proofs.Truths.{cond_most}
use Rattle.hw_model.specs.Problem.{Problem}
use Rattle.hw_flat_programme.specs.declared.format.Sense.TheVariants.{AtMost}
use Rattle.hw_flat_programme.specs.declared.span.Span.{Span}
use Rattle.hw_flat_programme.specs.Programmes.{Term, Row, Point, total, weight_of, SatisfiesRows}
use Rattle.hw_flat_programme.specs.Rows.{row_at_most, numbered_rows, terms_of}

pub total-append : (p : Point) (a b : List Term) → total p (a ++ b) ≡ total p a + total p b
total-append p [] b = omega arith
total-append p (t ∷ ts) b = omega (arith, total-append p ts b)

pub weight_of-append : (a b : List Term) → weight_of (a ++ b) ≡ weight_of a + weight_of b
weight_of-append [] b = omega arith
weight_of-append (t ∷ ts) b = omega (arith, weight_of-append ts b)

-- a sum is at most its weights
pub total_le : (p : Point) (ts : List Term) → total p ts ≤ weight_of ts
total_le p [] = omega arith
total_le p (t ∷ ts) = omega (arith, cond_most (p t.ship t.slot) t.weight, total_le p ts)

pub satisfies-append : (p : Point) (a b : List Row) → SatisfiesRows p a → SatisfiesRows p b → SatisfiesRows p (a ++ b)
satisfies-append p [] b h k = k
satisfies-append p (row ∷ rows) b h k = (h.0, satisfies-append p rows b h.1 k)

pub satisfies_parts : (p : Point) (a b : List Row) → SatisfiesRows p (a ++ b) → SatisfiesRows p a × SatisfiesRows p b
satisfies_parts p [] b h = (tt, h)
satisfies_parts p (row ∷ rows) b h =
    let rest = satisfies_parts p rows b h.1 in
    ((h.0, rest.0), rest.1)

-- a row that is left out because all its terms together keep the bound is satisfied by every point
pub at_most_holds : (f : Problem) (p : Point) (bound : ℕ) (spans : List Span) → total p (terms_of f spans) ≤ bound → SatisfiesRows p (row_at_most f bound spans)
at_most_holds f p bound spans le = by (nat_lt bound (weight_of (terms_of f spans)))
  where
    by : (b : Bool) → SatisfiesRows p (cond b (record { terms = terms_of f spans; sense = AtMost; bound = bound } ∷ []) [])
    by true = (le, tt)
    by false = tt

pub at_most_gives : (f : Problem) (p : Point) (bound : ℕ) (spans : List Span) → SatisfiesRows p (row_at_most f bound spans) → total p (terms_of f spans) ≤ bound
at_most_gives f p bound spans h = by (nat_lt bound (weight_of (terms_of f spans))) refl h
  where
    by : (b : Bool) → nat_lt bound (weight_of (terms_of f spans)) ≡ b → SatisfiesRows p (cond b (record { terms = terms_of f spans; sense = AtMost; bound = bound } ∷ []) []) → total p (terms_of f spans) ≤ bound
    by true e h = h.0
    by false e h = omega (arith, ltb-false _ _ e, total_le p (terms_of f spans))

pub rows_hold : (f : Problem) (p : Point) (bound : ℕ → ℕ) (spans : ℕ → List Span) (k count : ℕ) → ((i : ℕ) → k ≤ i → i < k + count → total p (terms_of f (spans i)) ≤ bound i) → SatisfiesRows p (numbered_rows f bound spans k count)
rows_hold f p bound spans k zero h = tt
rows_hold f p bound spans k (suc more) h =
    satisfies-append p (row_at_most f (bound k) (spans k)) (numbered_rows f bound spans (k + 1) more)
    (at_most_holds f p (bound k) (spans k) (h k (omega arith) (omega arith)))
    (rows_hold f p bound spans (k + 1) more (λ i le lt. h i (omega (arith, le)) (omega (arith, lt))))

pub rows_give : (f : Problem) (p : Point) (bound : ℕ → ℕ) (spans : ℕ → List Span) (k count : ℕ) → SatisfiesRows p (numbered_rows f bound spans k count) → (i : ℕ) → k ≤ i → i < k + count → total p (terms_of f (spans i)) ≤ bound i
rows_give f p bound spans k zero h i le lt = absurd (omega arith)
rows_give f p bound spans k (suc more) h i le lt =
    let parts = satisfies_parts p (row_at_most f (bound k) (spans k)) (numbered_rows f bound spans (k + 1) more) h in
    elim (cases_eq k i) [
      | inl same ↦ at i same (at_most_gives f p (bound k) (spans k) parts.0)
      | inr ne ↦ rows_give f p bound spans (k + 1) more parts.1 i (later k i le ne) (omega (arith, lt))
    ]
  where
    at : (i : ℕ) → k ≡ i → total p (terms_of f (spans k)) ≤ bound k → total p (terms_of f (spans i)) ≤ bound i
    at i same h = let P : ℕ → Type 0 = λ n. total p (terms_of f (spans n)) ≤ bound n in subst P same h

    later : (k i : ℕ) → k ≤ i → (k ≡ i → ⊥) → k + 1 ≤ i
    later k i le ne = grind arith
