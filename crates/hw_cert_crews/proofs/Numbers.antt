-- Shared numbers of own clause lines.
use Rattle.std.proofs.Common.{◌≡◌, ℕ, zero, suc, ◌+◌, ◌<◌, ◌≤◌, List, [], ◌∷◌, ◌++◌, Option, Some, None, length, get_or, All, IsSome, refl, inl, inr, arith, length-append}
use Rattle.std.specs.Prelude.{AllPairs, Contains}
use Rattle.std.specs.List.{list_any}
use Rattle.std.proofs.lemmas.Bool.{cases_lt, cond_both}
use Rattle.hw_lemmas.proofs.Lists.{front_at}
use Rattle.hw_lemmas.proofs.Truths.{is_there}
use Rattle.hw_model.specs.declared.lit.Lit.{Lit}
use Rattle.hw_cert_lines.specs.declared.line.Line.{Line}
use Rattle.hw_cert_lines.specs.Lines.{clause_count, clause_at, live, deletes}
use Rattle.hw_cert_lines.proofs.Deleted.{live_in}
use Rattle.hw_cert_crews.specs.Pages.{shared_number}

-- ---- numbers at places

pub at_last : {A : Type 0} (xs : List A) (y : A) (i : ℕ) (d : A) → i ≡ length xs → get_or (xs ++ y ∷ []) i d ≡ y
at_last [] y zero d e = refl
at_last [] y (suc i) d e = absurd (omega (arith, e))
at_last (x ∷ xs) y zero d e = absurd (omega (arith, e))
at_last (x ∷ xs) y (suc i) d e = at_last xs y i d (omega (arith, e))

pub any_default : (xs : List ℕ) (i d e : ℕ) → i < length xs → get_or xs i d ≡ get_or xs i e
any_default [] i d e lt = absurd (omega (arith, lt))
any_default (x ∷ xs) zero d e lt = refl
any_default (x ∷ xs) (suc i) d e lt = any_default xs i d e (omega (arith, lt))

pub rising_push : (xs : List ℕ) (y : ℕ) → AllPairs (λ earlier later. earlier < later) xs → All (λ x. x < y) xs → AllPairs (λ earlier later. earlier < later) (xs ++ y ∷ [])
rising_push xs y up below = λ i j d lt in'. by i j d lt (omega (arith, in', length-append xs (y ∷ [])))
  where
    by : (i j d : ℕ) → i < j → j ≤ length xs → get_or (xs ++ y ∷ []) i d < get_or (xs ++ y ∷ []) j d
    by i j d lt le = elim (cases_lt j (length xs)) [
      | inl inside ↦ omega (arith, up i j d lt inside, front_at xs (y ∷ []) i d (omega (arith, lt, inside)), front_at xs (y ∷ []) j d inside)
      | inr end ↦
          let is : j ≡ length xs = omega (arith, end, le) in
          omega (arith, below i d (omega (arith, lt, is)), front_at xs (y ∷ []) i d (omega (arith, lt, is)), at_last xs y j d is)
    ]

-- ---- shared numbers

pub same_number : (numbers more : List ℕ) (id : ℕ) → id ≤ length numbers → shared_number (numbers ++ more) id ≡ shared_number numbers id
same_number numbers more zero le = refl
same_number numbers more (suc n) le = front_at numbers more n 0 (omega (arith, le))

pub last_number : (numbers : List ℕ) (y id : ℕ) → id ≡ length numbers + 1 → shared_number (numbers ++ y ∷ []) id ≡ y
last_number numbers y zero e = absurd (omega (arith, e))
last_number numbers y (suc n) e = at_last numbers y n 0 (omega (arith, e))

pub number_holds : (P : ℕ → Type 0) (numbers : List ℕ) (id : ℕ) → All P numbers → 1 ≤ id → id ≤ length numbers → P (shared_number numbers id)
number_holds P numbers zero all low high = absurd (omega (arith, low))
number_holds P numbers (suc n) all low high = all n 0 (omega (arith, high))

pub number_among : (numbers : List ℕ) (id : ℕ) → 1 ≤ id → id ≤ length numbers → Contains numbers (shared_number numbers id)
number_among numbers zero low high = absurd (omega (arith, low))
number_among numbers (suc n) low high = (n, omega (arith, high), any_default numbers n (get_or numbers n 0) 0 (omega (arith, high)))

pub numbers_rise : (numbers : List ℕ) (i j : ℕ) → AllPairs (λ earlier later. earlier < later) numbers → 1 ≤ i → i < j → j ≤ length numbers → shared_number numbers i < shared_number numbers j
numbers_rise numbers zero j up low lt high = absurd (omega (arith, low))
numbers_rise numbers (suc i) zero up low lt high = absurd (omega (arith, lt))
numbers_rise numbers (suc i) (suc j) up low lt high = up i j 0 (omega (arith, lt)) (omega (arith, high))

pub numbers_differ : (numbers : List ℕ) (i j : ℕ) → AllPairs (λ earlier later. earlier < later) numbers → 1 ≤ i → i ≤ length numbers → 1 ≤ j → j ≤ length numbers → (i ≡ j → ⊥) → shared_number numbers i ≡ shared_number numbers j → ⊥
numbers_differ numbers i j up li hi lj hj ne e = elim (cases_lt i j) [
  | inl lt ↦ omega (arith, e, numbers_rise numbers i j up li lt hj)
  | inr le ↦ omega (arith, e, numbers_rise numbers j i up lj (let strict : j < i = omega (arith, le, ne) in strict) hi)
]

-- ---- live numbers

none_some : {A : Type 0} (o : Option A) (x : A) → o ≡ None → o ≡ Some x → ⊥
none_some o x e f = cc

pub live_low : (before : List Line) (id : ℕ) (clause : List Lit) → live before id ≡ Some clause → 1 ≤ id
live_low before zero clause e = absurd (none_some (live before 0) clause (cond_both (list_any (deletes 0) before) None (clause_at before 0) (λ o. o ≡ None) (λ f. refl) (λ f. refl)) e)
live_low before (suc n) clause e = omega arith

pub live_high : (before : List Line) (id : ℕ) (clause : List Lit) → live before id ≡ Some clause → id ≤ clause_count before
live_high before id clause e = live_in before id (is_there (live before id) clause e)

pub of_some : {A : Type 0} (o : Option A) → IsSome o → (x : A) × (o ≡ Some x)
of_some None h = absurd cc
of_some (Some x) h = (x, refl)
