-- The literals of a normal clause ascend throughout.
use Rattle.std.proofs.Common.{◌≡◌, ℕ, zero, suc, ◌+◌, ◌<◌, true, not, ◌==◌, List, [], ◌∷◌, Option, Some, None, refl, sym, ap, subst, arith, inl, inr, slice_get}
use Rattle.std.proofs.lemmas.Bool.{and_parts, and_from, or_left, eqb-true, cases_Bool, cases_lt}
use Rattle.hw_model.specs.declared.lit.Lit.{Lit}
use Rattle.hw_model.specs.declared.lit.Lit.TheVariants as lits
use Rattle.hw_model.specs.declared.shape.Shape.{Shape}
use Rattle.hw_model.specs.Lits.{lit_fits, place_of, is_earlier, leaves_some, may_follow, keeps_form, first_bad_from, IsClause}
use Rattle.hw_model_laws.proofs.Denials.{no_bad}
use Rattle.hw_model_laws.proofs.Places.{Earlier, earlier_from, earlier_trans, not_itself}

-- no place lies between the two bounds of a ship
between : (v a b c : ℕ) → Earlier 0 v 0 a b c → Earlier a b c 0 v 1 → ⊥
between v a b c h k = grind arith

-- with a literal between them, two bounds are of different ships
apart : (x l m : Lit) → may_follow x l ≡ true → may_follow l m ≡ true → leaves_some x m ≡ true
apart (lits.AtOrAfter v k) l (lits.Before w j) h i =
    let up = earlier_from (0, v, 0) (place_of l) (and_parts (is_earlier (0, v, 0) (place_of l)) _ h).0 in
    let on = earlier_from (place_of l) (0, w, 1) (and_parts (is_earlier (place_of l) (0, w, 1)) _ i).0 in
    elim (cases_Bool (v == w)) [
      | inl same ↦ absurd (between v _ _ _ up (subst (λ s. Earlier (place_of l).0 (place_of l).1 (place_of l).2 0 s 1) (sym (eqb-true v w same)) on))
      | inr other ↦ or_left _ _ (ap not other)
    ]
apart (lits.AtOrAfter v k) l (lits.AtOrAfter w j) h i = refl
apart (lits.AtOrAfter v k) l (lits.First w j) h i = refl
apart (lits.AtOrAfter v k) l (lits.NotFirst w j) h i = refl
apart (lits.Before v k) l m h i = refl
apart (lits.First v k) l m h i = refl
apart (lits.NotFirst v k) l m h i = refl

follow_trans : (x l m : Lit) → may_follow x l ≡ true → may_follow l m ≡ true → may_follow x m ≡ true
follow_trans x l m h i =
    and_from _ _ (earlier_trans (place_of x) (place_of l) (place_of m) (and_parts (is_earlier (place_of x) (place_of l)) _ h).0 (and_parts (is_earlier (place_of l) (place_of m)) _ i).0) (apart x l m h i)

keeps_trans : (before : Option Lit) (l m : Lit) → keeps_form before l ≡ true → may_follow l m ≡ true → keeps_form before m ≡ true
keeps_trans None l m h i = refl
keeps_trans (Some x) l m h i = follow_trans x l m h i

-- each literal may follow the one before the list
each_follows : (shape : Shape) (clause : List Lit) (place : ℕ) (before : Option Lit) (at : ℕ) (m : Lit) → first_bad_from shape place before clause ≡ None → slice_get clause at ≡ Some m → keeps_form before m ≡ true
each_follows shape [] place before at m e s = absurd cc
each_follows shape (l ∷ more) place before zero m e s =
    let good = no_bad (lit_fits shape l) (keeps_form before l) _ _ _ e in
    let same : l ≡ m = cc in
    subst (λ y. keeps_form before y ≡ true) same good.1
each_follows shape (l ∷ more) place before (suc at) m e s =
    let good = no_bad (lit_fits shape l) (keeps_form before l) _ _ _ e in
    keeps_trans before l m good.1 (each_follows shape more (place + 1) (Some l) at m good.2 s)

ascends_from : (shape : Shape) (clause : List Lit) (place : ℕ) (before : Option Lit) (a b : ℕ) (l m : Lit) → first_bad_from shape place before clause ≡ None → a < b → slice_get clause a ≡ Some l → slice_get clause b ≡ Some m → may_follow l m ≡ true
ascends_from shape [] place before a b l m e lt s t = absurd cc
ascends_from shape (x ∷ more) place before a zero l m e lt s t = absurd (omega (arith, lt))
ascends_from shape (x ∷ more) place before zero (suc b) l m e lt s t =
    let good = no_bad (lit_fits shape x) (keeps_form before x) _ _ _ e in
    let follows : may_follow x m ≡ true = each_follows shape more (place + 1) (Some x) b m good.2 t in
    let same : x ≡ l = cc in
    subst (λ y. may_follow y m ≡ true) same follows
ascends_from shape (x ∷ more) place before (suc a) (suc b) l m e lt s t =
    let good = no_bad (lit_fits shape x) (keeps_form before x) _ _ _ e in
    ascends_from shape more (place + 1) (Some x) a b l m good.2 (omega (arith, lt)) s t

pub ascends : (shape : Shape) (clause : List Lit) (a b : ℕ) (l m : Lit) → IsClause shape clause → a < b → slice_get clause a ≡ Some l → slice_get clause b ≡ Some m → may_follow l m ≡ true
ascends shape clause a b l m is lt s t = ascends_from shape clause 0 None a b l m is lt s t

apart_places : (l m : Lit) → may_follow l m ≡ true → place_of l ≡ place_of m → ⊥
apart_places l m h e = not_itself _ _ _ _ _ _ (ap (λ p. p.0) e) (ap (λ p. p.1) e) (ap (λ p. p.2) e) (and_parts (is_earlier (place_of l) (place_of m)) _ h).0

pub one_place : (shape : Shape) (clause : List Lit) (a b : ℕ) (l m : Lit) → IsClause shape clause → slice_get clause a ≡ Some l → slice_get clause b ≡ Some m → place_of l ≡ place_of m → a ≡ b
one_place shape clause a b l m is s t e = elim (cases_lt a b) [
  | inl lt ↦ absurd (apart_places l m (ascends shape clause a b l m is lt s t) e)
  | inr le ↦ elim (cases_lt b a) [
    | inl lt ↦ absurd (apart_places m l (ascends shape clause b a m l is lt t s) (sym e))
    | inr ge ↦ omega (arith, le, ge)
  ]
]
