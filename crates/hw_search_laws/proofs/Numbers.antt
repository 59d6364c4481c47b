-- The numbers that a search keeps, by places.
use Rattle.std.proofs.Common.{◌≡◌, ◌⊎◌, ℕ, zero, suc, ◌<◌, List, [], ◌∷◌, ◌++◌, Option, Some, None, length, map, get_or, take, replicate, filter_map, slice_get, IsSome, refl, ap, arith, inl, inr}
use Rattle.std.specs.Prelude.{Contains, slice_set}
use Rattle.std.specs.Option.{option_flatten}
use Rattle.std.specs.List.{cons_option}
use Rattle.hw_store.specs.declared.store.Stored.{Stored}
use Rattle.hw_search_laws.specs.Searches.{NumbersStay}

-- ---- members of any list

pub contains_here : {A : Type 0} (x : A) (xs : List A) (y : A) → x ≡ y → Contains (x ∷ xs) y
contains_here x xs y e = (0, omega arith, e)

pub contains_there : {A : Type 0} (x : A) (xs : List A) (y : A) → Contains xs y → Contains (x ∷ xs) y
contains_there x xs y h = (suc h.0, omega (arith, h.1), h.2)

by_place : {A : Type 0} (x : A) (xs : List A) (y : A) (k : ℕ) → k < length (x ∷ xs) → get_or (x ∷ xs) k y ≡ y → (x ≡ y) ⊎ Contains xs y
by_place x xs y zero lt e = inl e
by_place x xs y (suc k) lt e = inr (k, omega (arith, lt), e)

pub contains_cases : {A : Type 0} (x : A) (xs : List A) (y : A) → Contains (x ∷ xs) y → (x ≡ y) ⊎ Contains xs y
contains_cases x xs y h = by_place x xs y h.0 h.1 h.2

pub contains_none : {A : Type 0} (y : A) → Contains [] y → ⊥
contains_none y h = omega (arith, h.1)

-- ---- places of written numbers

-- the number stands at the place
abbrev pub WrittenAt : List (Option ℕ) → ℕ → ℕ → Type 0
WrittenAt ws place n = option_flatten (slice_get ws place) ≡ Some n

found_by : (o : Option ℕ) (ws : List (Option ℕ)) (n : ℕ) → (Contains (filter_map (λ (w : Option ℕ). w) ws) n → (place : ℕ) × WrittenAt ws place n) → Contains (cons_option o (filter_map (λ (w : Option ℕ). w) ws)) n → (place : ℕ) × WrittenAt (o ∷ ws) place n
found_by None ws n k h = let r = k h in (suc r.0, r.1)
found_by (Some m) ws n k h = elim (contains_cases m (filter_map (λ (w : Option ℕ). w) ws) n h) [
  | inl e ↦ (zero, ap (λ i. Some i) e)
  | inr c ↦ let r = k c in (suc r.0, r.1)
]

pub written_found : (ws : List (Option ℕ)) (n : ℕ) → Contains (filter_map (λ (w : Option ℕ). w) ws) n → (place : ℕ) × WrittenAt ws place n
written_found [] n h = absurd (contains_none n h)
written_found (o ∷ ws) n h = found_by o ws n (written_found ws n) h

more_by : (o : Option ℕ) (ws : List ℕ) (n : ℕ) → Contains ws n → Contains (cons_option o ws) n
more_by None ws n h = h
more_by (Some m) ws n h = contains_there m ws n h

here_by : (o : Option ℕ) (ws : List ℕ) (n : ℕ) → o ≡ Some n → Contains (cons_option o ws) n
here_by None ws n e = absurd cc
here_by (Some m) ws n e = contains_here m ws n (let same : m ≡ n = cc in same)

pub found_written : (ws : List (Option ℕ)) (place n : ℕ) → WrittenAt ws place n → Contains (filter_map (λ (w : Option ℕ). w) ws) n
found_written [] place n e = absurd cc
found_written (o ∷ ws) zero n e = here_by o (filter_map (λ (w : Option ℕ). w) ws) n e
found_written (o ∷ ws) (suc place) n e = more_by o (filter_map (λ (w : Option ℕ). w) ws) n (found_written ws place n e)

-- after one was set
pub set_here : (ws : List (Option ℕ)) (place n : ℕ) → place < length ws → WrittenAt (slice_set ws place (Some n)) place n
set_here [] place n lt = absurd (omega (arith, lt))
set_here (o ∷ ws) zero n lt = refl
set_here (o ∷ ws) (suc place) n lt = set_here ws place n (omega (arith, lt))

pub set_other : (ws : List (Option ℕ)) (place q : ℕ) (o : Option ℕ) → (q ≡ place → ⊥) → slice_get (slice_set ws place o) q ≡ slice_get ws q
set_other [] place q o ne = refl
set_other (x ∷ ws) zero zero o ne = absurd (ne refl)
set_other (x ∷ ws) zero (suc q) o ne = refl
set_other (x ∷ ws) (suc place) zero o ne = refl
set_other (x ∷ ws) (suc place) (suc q) o ne = set_other ws place q o (λ e. ne (ap suc e))

-- and no other is gone
pub set_stay : (ws : List (Option ℕ)) (place n : ℕ) → NumbersStay ws (slice_set ws place (Some n))
set_stay ws place n q h = by ws place q h
  where
    by : (ws : List (Option ℕ)) (place q : ℕ) → IsSome (option_flatten (slice_get ws q)) → IsSome (option_flatten (slice_get (slice_set ws place (Some n)) q))
    by [] place q h = h
    by (x ∷ ws) zero zero h = refl
    by (x ∷ ws) zero (suc q) h = h
    by (x ∷ ws) (suc place) zero h = h
    by (x ∷ ws) (suc place) (suc q) h = by ws place q h

pub get_within : {A : Type 0} (xs ys : List A) (i : ℕ) (x : A) → slice_get xs i ≡ Some x → slice_get (xs ++ ys) i ≡ Some x
get_within [] ys i x e = absurd cc
get_within (y ∷ xs) ys zero x e = e
get_within (y ∷ xs) ys (suc i) x e = get_within xs ys i x e

-- nothing but none follows the list
abbrev no_number : Option ℕ
no_number = None

none_later : (n place : ℕ) → option_flatten (slice_get (replicate n no_number) place) ≡ None
none_later zero place = refl
none_later (suc n) zero = refl
none_later (suc n) (suc place) = none_later n place

pub flat_past : (ws : List (Option ℕ)) (n place : ℕ) → option_flatten (slice_get (ws ++ replicate n None) place) ≡ option_flatten (slice_get ws place)
flat_past [] n place = none_later n place
flat_past (o ∷ ws) n zero = refl
flat_past (o ∷ ws) n (suc place) = flat_past ws n place

pub flat_front : (ws : List (Option ℕ)) (k place m : ℕ) → WrittenAt (take k ws) place m → WrittenAt ws place m × (place < k)
flat_front ws zero place m e = absurd cc
flat_front [] (suc k) place m e = absurd cc
flat_front (o ∷ ws) (suc k) zero m e = (e, omega arith)
flat_front (o ∷ ws) (suc k) (suc place) m e = let r = flat_front ws k place m e in (r.0, omega (arith, r.1))

-- ---- the numbers of stored clauses

pub numbers_push : (xs : List Stored) (x : Stored) → map (λ (one : Stored). one.number) (xs ++ x ∷ []) ≡ map (λ (one : Stored). one.number) xs ++ x.number ∷ []
numbers_push [] x = refl
numbers_push (y ∷ xs) x = ap (λ ys. y.number ∷ ys) (numbers_push xs x)
