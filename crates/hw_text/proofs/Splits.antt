-- The first part of a text ends at the first place of the byte.
use Rattle.std.proofs.Common.{◌≡◌, ℕ, suc, ◌+◌, Bool, true, false, cond, List, [], ◌∷◌, take, drop, Some, None, refl, sym, ap, ◌∙◌, arith, add-one, position, eqb, length}
use Rattle.std.proofs.lemmas.Bool.Decides.{nat_tests}
use Rattle.hw_text.specs.Parts.{first_part, at_end}
use Rattle.std.proofs.lemmas.Iterator.Adapters.{position_from-zero}
use Rattle.std.specs.List.{slice_split, onto_first, position_from}

none_first : {X : Type 0} (p : X → Bool) (k : ℕ) (xs : List X) → position_from p k xs ≡ None → slice_split p xs ≡ xs ∷ []
none_first p k [] e = refl
none_first p k (x ∷ xs) e =
    elim (p x) as (λ b. cond b (Some k) (position_from p (k + 1) xs) ≡ None → cond b ([] ∷ slice_split p xs) (onto_first x (slice_split p xs)) ≡ (x ∷ xs) ∷ []) [
      | true ↦ λ h. absurd cc
      | false ↦ λ h. ap (onto_first x) (none_first p (k + 1) xs h)
    ] e

some_first : {X : Type 0} (p : X → Bool) (k i : ℕ) (xs : List X) → position_from p k xs ≡ Some i → (j : ℕ) × (i ≡ k + j) × (slice_split p xs ≡ take j xs ∷ slice_split p (drop (suc j) xs))
some_first p k i [] e = absurd cc
some_first p k i (x ∷ xs) e =
    elim (p x) as (λ b. cond b (Some k) (position_from p (k + 1) xs) ≡ Some i → (j : ℕ) × (i ≡ k + j) × (cond b ([] ∷ slice_split p xs) (onto_first x (slice_split p xs)) ≡ take j (x ∷ xs) ∷ slice_split p (drop (suc j) (x ∷ xs)))) [
      | true ↦ λ h. (0, omega (arith, some_is k i h), refl)
      | false ↦ λ h. let r = some_first p (k + 1) i xs h in (suc r.0, omega (arith, r.1), ap (onto_first x) r.2)
    ] e
  where
    some_is : (a b : ℕ) → Some a ≡ Some b → a ≡ b
    some_is a b h = cc

pub no_cut : {X : Type 0} (p : X → Bool) (xs : List X) → position p xs ≡ None → slice_split p xs ≡ xs ∷ []
no_cut p xs e = none_first p 0 xs (sym (position_from-zero p xs) ∙ e)

pub first_cut : {X : Type 0} (p : X → Bool) (i : ℕ) (xs rest : List X) → position p xs ≡ Some i → rest ≡ drop (i + 1) xs → slice_split p xs ≡ take i xs ∷ slice_split p rest
first_cut p i xs rest e r =
    let f = some_first p 0 i xs (sym (position_from-zero p xs) ∙ e) in
    let same : f.0 ≡ i = omega (arith, f.1) in
    let cut : slice_split p xs ≡ take f.0 xs ∷ slice_split p (drop (suc f.0) xs) = f.2 in
    rw (r, add-one) (rw same at cut)

-- there is always a part
pub has_part : {X : Type 0} (p : X → Bool) (xs : List X) → (y : List X) × (ys : List (List X)) × (slice_split p xs ≡ y ∷ ys)
has_part p [] = ([], [], refl)
has_part p (x ∷ xs) =
    elim (p x) as (λ b. (y : _) × (ys : _) × (cond b ([] ∷ slice_split p xs) (onto_first x (slice_split p xs)) ≡ y ∷ ys)) [
      | true ↦ ([], slice_split p xs, refl)
      | false ↦ let r = has_part p xs in (x ∷ r.0, r.1, ap (onto_first x) r.2)
    ]

pub never_none : {X : Type 0} (p : X → Bool) (xs : List X) → slice_split p xs ≡ [] → ⊥
never_none p xs e = let r = has_part p xs in absurd_cons r.0 r.1 (sym r.2 ∙ e)
  where
    absurd_cons : {Y : Type 0} (y : Y) (ys : List Y) → y ∷ ys ≡ [] → ⊥
    absurd_cons y ys h = absurd cc

-- where a part is cut off, the first part has others after it
pub first_part_is : (p : ℕ → Bool) (xs line rest : List ℕ) → slice_split p xs ≡ line ∷ slice_split p rest → Some (line, slice_split p rest) ≡ first_part (slice_split p xs)
first_part_is p xs line rest e = let r = has_part p rest in rw (e, r.2) refl

-- nothing is left where the one part is empty
pub is_ended : (p : ℕ → Bool) (xs : List ℕ) → eqb (length xs) 0 ≡ at_end (slice_split p xs)
is_ended p [] = refl
is_ended p (x ∷ xs) =
    let r = has_part p xs in
    let some : eqb (suc (length xs)) 0 ≡ false = grind (arith, nat_tests) in
    some ∙ (elim (p x) as (λ b. false ≡ at_end (cond b ([] ∷ slice_split p xs) (onto_first x (slice_split p xs)))) [
      | true ↦ rw r.2 refl
      | false ↦ rw r.2 refl
    ])
