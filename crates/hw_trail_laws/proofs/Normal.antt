-- A normal clause has one literal a side, and two open ones are two different literals.
use Rattle.std.proofs.Common.{◌≡◌, ℕ, suc, ◌+◌, ◌≤◌, Bool, true, false, cond, List, [], ◌∷◌, Option, Some, None, length, filter, refl, sym, ap, ◌∙◌, subst, arith, inl, inr}
use Rattle.std.proofs.lemmas.Bool.{and_parts}
use Rattle.hw_model.specs.declared.lit.Lit.{Lit}
use Rattle.hw_model.specs.declared.lit.Lit.TheVariants.{AtOrAfter, Before, First, NotFirst}
use Rattle.hw_model.specs.declared.shape.Shape.{Shape}
use Rattle.hw_model.specs.Lits.{lit_fits, keeps_form, is_earlier, place_of, first_bad_from, IsClause}
use Rattle.hw_model_laws.proofs.Places.{earlier_trans, not_itself}
use Rattle.hw_model_laws.proofs.Denials.{no_bad}
use Rattle.hw_trail_laws.specs.Walks.{InClause}
use Rattle.hw_trail_laws.specs.News.{OneASide}
use Rattle.hw_trail_laws.proofs.Sides.{SameSide, same_parts}

abbrev pub IsAfter : Option Lit → Lit → Type 0
IsAfter None m = Unit {0}
IsAfter (Some b) m = is_earlier (place_of b) (place_of m) ≡ true

after_too : (before : Option Lit) (lit m : Lit) → keeps_form before lit ≡ true → is_earlier (place_of lit) (place_of m) ≡ true → IsAfter before m
after_too None lit m k h = tt
after_too (Some b) lit m k h = earlier_trans (place_of b) (place_of lit) (place_of m) (and_parts _ _ k).0 h

own_after : (before : Option Lit) (lit : Lit) → keeps_form before lit ≡ true → IsAfter before lit
own_after None lit k = tt
own_after (Some b) lit k = (and_parts _ _ k).0

-- each literal of the rest stands after the one before
pub in_after : (shape : Shape) (c : List Lit) (n : ℕ) (before : Option Lit) → first_bad_from shape n before c ≡ None → (m : Lit) → InClause m c → IsAfter before m
in_after shape [] n before e m i = absurd i
in_after shape (l ∷ c) n before e m (inl same) =
    let good = no_bad (lit_fits shape l) (keeps_form before l) _ _ _ e in
    subst (λ (x : Lit). IsAfter before x) same (own_after before l good.1)
in_after shape (l ∷ c) n before e m (inr i) =
    let good = no_bad (lit_fits shape l) (keeps_form before l) _ _ _ e in
    after_too before l m good.1 (in_after shape c (n + 1) (Some l) good.2 m i)

same_place : (l m : Lit) → SameSide l m → place_of l ≡ place_of m
same_place (AtOrAfter v k) (AtOrAfter w j) p = ap (λ x. (0, x, 0)) p.ones
same_place (Before v k) (Before w j) p = ap (λ x. (0, x, 1)) p.ones
same_place (First v k) (First w j) p = ap (λ x. (1, x, k)) p.ones ∙ ap (λ x. (1, w, x)) p.others
same_place (NotFirst v k) (NotFirst w j) p = ap (λ x. (1, x, k)) p.ones ∙ ap (λ x. (1, w, x)) p.others
same_place _ _ p = absurd (omega (arith, p.kinds))

not_before_itself : (l m : Lit) → place_of l ≡ place_of m → is_earlier (place_of l) (place_of m) ≡ true → ⊥
not_before_itself l m e h = not_itself (place_of l).0 (place_of l).1 (place_of l).2 (place_of m).0 (place_of m).1 (place_of m).2 (ap (λ (p : ℕ × ℕ × ℕ). p.0) e) (ap (λ (p : ℕ × ℕ × ℕ). p.1) e) (ap (λ (p : ℕ × ℕ × ℕ). p.2) e) h

pub apart : (l m : Lit) → is_earlier (place_of l) (place_of m) ≡ true → l ≡ m → ⊥
apart l m h e = not_before_itself l m (ap place_of e) h

one_from : (shape : Shape) (c : List Lit) (n : ℕ) (before : Option Lit) → first_bad_from shape n before c ≡ None → OneASide c
one_from shape [] n before e l m i k s = absurd i
one_from shape (x ∷ c) n before e l m i k s =
    let good = no_bad (lit_fits shape x) (keeps_form before x) _ _ _ e in
    elim i [
      | inl a ↦ elim k [
        | inl b ↦ sym a ∙ b
        | inr b ↦ absurd (not_before_itself x m (ap place_of a ∙ same_place l m (same_parts l m s)) (in_after shape c (n + 1) (Some x) good.2 m b))
      ]
      | inr a ↦ elim k [
        | inl b ↦ absurd (not_before_itself x l (ap place_of b ∙ sym (same_place l m (same_parts l m s))) (in_after shape c (n + 1) (Some x) good.2 l a))
        | inr b ↦ one_from shape c (n + 1) (Some x) good.2 l m a b s
      ]
    ]

pub one_a_side : (shape : Shape) (c : List Lit) → IsClause shape c → OneASide c
one_a_side shape c is = one_from shape c 0 None is

-- ---- two that pass a test

pub record Passing (p : Lit → Bool) (c : List Lit) : Type 0 where
  pub lit : Lit
  pub within : InClause lit c
  pub passes : p lit ≡ true

pub record TwoPassing (p : Lit → Bool) (c : List Lit) : Type 0 where
  pub one : Lit
  pub other : Lit
  pub one_in : InClause one c
  pub other_in : InClause other c
  pub two : one ≡ other → ⊥
  pub one_passes : p one ≡ true
  pub other_passes : p other ≡ true

some_by : (p : Lit → Bool) (b : Bool) (l : Lit) (c : List Lit) → p l ≡ b → (1 ≤ length (filter p c) → Passing p c) → 1 ≤ length (cond b (l ∷ filter p c) (filter p c)) → Passing p (l ∷ c)
some_by p true l c e k h = record { lit = l; within = inl refl; passes = e }
some_by p false l c e k h = let r = k h in record { lit = r.lit; within = inr r.within; passes = r.passes }

pub some_passing : (p : Lit → Bool) (c : List Lit) → 1 ≤ length (filter p c) → Passing p c
some_passing p [] h = absurd (omega (arith, h))
some_passing p (l ∷ c) h = some_by p (p l) l c refl (some_passing p c) h

two_by : (p : Lit → Bool) (b : Bool) (l : Lit) (c : List Lit) → p l ≡ b → ((m : Lit) → InClause m c → l ≡ m → ⊥) → (2 ≤ length (filter p c) → TwoPassing p c) → 2 ≤ length (cond b (l ∷ filter p c) (filter p c)) → TwoPassing p (l ∷ c)
two_by p true l c e ne k h =
    let r = some_passing p c (omega (arith, h)) in
    record { one = l; other = r.lit; one_in = inl refl; other_in = inr r.within; two = ne r.lit r.within; one_passes = e; other_passes = r.passes }
two_by p false l c e ne k h =
    let r = k h in
    record { one = r.one; other = r.other; one_in = inr r.one_in; other_in = inr r.other_in; two = r.two; one_passes = r.one_passes; other_passes = r.other_passes }

two_from : (shape : Shape) (p : Lit → Bool) (c : List Lit) (n : ℕ) (before : Option Lit) → first_bad_from shape n before c ≡ None → 2 ≤ length (filter p c) → TwoPassing p c
two_from shape p [] n before e h = absurd (omega (arith, h))
two_from shape p (l ∷ c) n before e h =
    let good = no_bad (lit_fits shape l) (keeps_form before l) _ _ _ e in
    two_by p (p l) l c refl (λ m i. apart l m (in_after shape c (n + 1) (Some l) good.2 m i)) (two_from shape p c (n + 1) (Some l) good.2) h

pub two_passing : (shape : Shape) (p : Lit → Bool) (c : List Lit) → IsClause shape c → 2 ≤ length (filter p c) → TwoPassing p c
two_passing shape p c is h = two_from shape p c 0 None is h

-- and back
kept_by : (p : Lit → Bool) (b : Bool) (l : Lit) (c : List Lit) (n : ℕ) → n ≤ length (filter p c) → n ≤ length (cond b (l ∷ filter p c) (filter p c))
kept_by p true l c n h = omega (arith, h)
kept_by p false l c n h = h

more_by : (p : Lit → Bool) (b : Bool) (l : Lit) (c : List Lit) (n : ℕ) → b ≡ true → n ≤ length (filter p c) → suc n ≤ length (cond b (l ∷ filter p c) (filter p c))
more_by p true l c n e h = omega (arith, h)
more_by p false l c n e h = absurd cc

pub one_counts : (p : Lit → Bool) (c : List Lit) (l : Lit) → InClause l c → p l ≡ true → 1 ≤ length (filter p c)
one_counts p [] l i e = absurd i
one_counts p (x ∷ c) l (inl same) e = more_by p (p x) x c 0 (ap p same ∙ e) (omega arith)
one_counts p (x ∷ c) l (inr i) e = kept_by p (p x) x c 1 (one_counts p c l i e)

pub two_count : (p : Lit → Bool) (c : List Lit) (l m : Lit) → InClause l c → InClause m c → (l ≡ m → ⊥) → p l ≡ true → p m ≡ true → 2 ≤ length (filter p c)
two_count p [] l m i k ne e f = absurd i
two_count p (x ∷ c) l m (inl a) (inl b) ne e f = absurd (ne (sym a ∙ b))
two_count p (x ∷ c) l m (inl a) (inr k) ne e f = more_by p (p x) x c 1 (ap p a ∙ e) (one_counts p c m k f)
two_count p (x ∷ c) l m (inr i) (inl b) ne e f = more_by p (p x) x c 1 (ap p b ∙ f) (one_counts p c l i e)
two_count p (x ∷ c) l m (inr i) (inr k) ne e f = kept_by p (p x) x c 2 (two_count p c l m i k ne e f)
