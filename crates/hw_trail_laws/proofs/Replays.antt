-- The replay from a narrower room meets a conflict too.
use Rattle.std.proofs.Common.{◌≡◌, Bool, true, false, refl, ◌⊎◌, inl, inr, ◌∙◌, sym, ap, cond, List, [], ◌∷◌, subst}
use Rattle.std.specs.Prelude.{MatchBool}
use Rattle.std.proofs.lemmas.Bool.{or_cases, or_left, or_right, cases_Bool, cond-true}
use Rattle.hw_model.specs.declared.lit.Lit.{Lit}
use Rattle.hw_model.specs.Lits.{negation}
use Rattle.hw_trail_laws.specs.Sides.{implies}
use Rattle.hw_trail_laws.specs.Replays.{Facts, Narrower, adding, left, any_true, after_one_clause, meets, World, AllDenied, OnlyLeft}
use Rattle.hw_trail_laws.proofs.Sides.{neg_neg, implies_trans, implies_neg, not_both}

none_step : (a b : Bool) (l : Lit) (xs ys : List Lit) → (a ≡ true → b ≡ true) → (xs ≡ [] → ys ≡ []) → cond a xs (l ∷ xs) ≡ [] → cond b ys (l ∷ ys) ≡ []
none_step true true l xs ys i f h = f h
none_step true false l xs ys i f h = absurd (let e : false ≡ true = i refl in cc)
none_step false b l xs ys i f h = absurd cc

pub none_left : (r s : Facts) → Narrower s r → (c : List Lit) → left r c ≡ [] → left s c ≡ []
none_left r s i [] h = refl
none_left r s i (l ∷ c) h = none_step (r (negation l)) (s (negation l)) l (left r c) (left s c) (i (negation l)) (none_left r s i c) h

one_step : (a b : Bool) (l e : Lit) (xs ys : List Lit) → (a ≡ true → b ≡ true) → (xs ≡ [] → ys ≡ [])
    → (xs ≡ e ∷ [] → (ys ≡ []) ⊎ (ys ≡ e ∷ [])) → cond a xs (l ∷ xs) ≡ e ∷ [] → (cond b ys (l ∷ ys) ≡ []) ⊎ (cond b ys (l ∷ ys) ≡ e ∷ [])
one_step true true l e xs ys i f g h = g h
one_step true false l e xs ys i f g h = absurd (let e : false ≡ true = i refl in cc)
one_step false true l e xs ys i f g h = inl (f cc)
one_step false false l e xs ys i f g h = let y : ys ≡ [] = f cc in inr cc

pub one_left : (r s : Facts) → Narrower s r → (c : List Lit) (e : Lit) → left r c ≡ e ∷ [] → (left s c ≡ []) ⊎ (left s c ≡ e ∷ [])
one_left r s i [] e h = absurd cc
one_left r s i (l ∷ c) e h = one_step (r (negation l)) (s (negation l)) l e (left r c) (left s c) (i (negation l)) (none_left r s i c) (one_left r s i c e) h

some_step : (r s : Facts) (a b : Bool) (l : Lit) (xs ys : List Lit) → (b ≡ true → s l ≡ true → ⊥) → (r l ≡ true → s l ≡ true) → (any_true r xs ≡ true → any_true s ys ≡ true)
    → any_true r (cond a xs (l ∷ xs)) ≡ true → any_true s (cond b ys (l ∷ ys)) ≡ true
some_step r s true true l xs ys k i f h = f h
some_step r s true false l xs ys k i f h = or_right _ _ (f h)
some_step r s false true l xs ys k i f h = elim (or_cases _ _ h) [ inl p ↦ absurd (k refl (i p)) | inr p ↦ f p ]
some_step r s false false l xs ys k i f h = elim (or_cases _ _ h) [ inl p ↦ or_left _ _ (i p) | inr p ↦ or_right _ _ (f p) ]

pub some_true : (r s : Facts) → Narrower s r → World s → (c : List Lit) → any_true r (left r c) ≡ true → any_true s (left s c) ≡ true
some_true r s i w [] h = absurd cc
some_true r s i w (l ∷ c) h = some_step r s (r (negation l)) (s (negation l)) l (left r c) (left s c) (λ a b. w.consistent l b a) (i l) (some_true r s i w c) h

pub cut_world : (e : Lit) (r : Facts) → World r → r (negation e) ≡ false → World (adding e r)
cut_world e r w free = record {
  closed = λ l m p q. elim (or_cases _ _ p) [
    | inl h ↦ or_left _ _ (implies_trans e l m h q)
    | inr h ↦ or_right _ _ (w.closed l m h q)
  ];
  consistent = λ m p q. elim (or_cases _ _ p) [
    | inl h ↦ elim (or_cases _ _ q) [
      | inl k ↦ not_both e m h k
      | inr k ↦ let f : r (negation e) ≡ true = w.closed (negation m) (negation e) k (implies_neg e m h) in cc
    ]
    | inr h ↦ elim (or_cases _ _ q) [
      | inl k ↦ let f : r (negation e) ≡ true = w.closed m (negation e) h (subst (λ (x : Lit). implies x (negation e) ≡ true) (neg_neg m) (implies_neg e (negation m) k)) in cc
      | inr k ↦ w.consistent m h k
    ]
  ];
}

free_step : (b : Bool) (l e : Lit) (xs : List Lit) (r : Facts) → r (negation l) ≡ b → (xs ≡ e ∷ [] → r (negation e) ≡ false) → cond b xs (l ∷ xs) ≡ e ∷ [] → r (negation e) ≡ false
free_step true l e xs r at f h = f h
free_step false l e xs r at f h = let same : l ≡ e = cc in subst (λ (x : Lit). r (negation x) ≡ false) same at

-- the literal left isn't false
pub left_free : (r : Facts) (c : List Lit) (e : Lit) → left r c ≡ e ∷ [] → r (negation e) ≡ false
left_free r [] e h = absurd cc
left_free r (l ∷ c) e h = free_step (r (negation l)) l e (left r c) r refl (left_free r c e) h

-- the meets of one step, and back
pub data Step (r : Facts) (c : List Lit) (go : Facts → Type 0) : Type 0 where
  Conflict : left r c ≡ [] → Step r c go
  Same : any_true r (left r c) ≡ true → go r → Step r c go
  Cut : (e : Lit) → left r c ≡ e ∷ [] → r e ≡ false → go (adding e r) → Step r c go

alone : (b : Bool) (e : Lit) (r : Facts) (c : List Lit) (go : Facts → Type 0) → left r c ≡ e ∷ [] → r e ≡ b → MatchBool b (go r) (go (adding e r)) → Step r c go
alone true e r c go h at k = Same (rw h (or_left (r e) false at)) k
alone false e r c go h at k = Cut e h at k

many : (b : Bool) (r : Facts) (c : List Lit) (go : Facts → Type 0) → any_true r (left r c) ≡ b → MatchBool b (go r) ⊥ → Step r c go
many true r c go at k = Same at k
many false r c go at k = absurd k

pub step_view : (r : Facts) (c : List Lit) (go : Facts → Type 0) (xs : List Lit) → left r c ≡ xs → after_one_clause xs r go → Step r c go
step_view r c go [] h k = Conflict h
step_view r c go (e ∷ []) h k = alone (r e) e r c go h refl k
step_view r c go (e ∷ f ∷ more) h k = many (any_true r (e ∷ f ∷ more)) r c go (ap (any_true r) h) k

pub step_conflict : (r : Facts) (c : List Lit) (go : Facts → Type 0) (xs : List Lit) → left r c ≡ xs → xs ≡ [] → after_one_clause xs r go
step_conflict r c go [] h e = tt
step_conflict r c go (x ∷ xs) h e = absurd cc

pub at_true : (b : Bool) (P Q : Type 0) → b ≡ true → P → MatchBool b P Q
at_true true P Q h k = k
at_true false P Q h k = absurd cc

pub at_false : (b : Bool) (P Q : Type 0) → b ≡ false → Q → MatchBool b P Q
at_false true P Q h k = absurd cc
at_false false P Q h k = k

pub lone : (r : Facts) (e : Lit) → any_true r (e ∷ []) ≡ true → r e ≡ true
lone r e h = elim (or_cases _ _ h) [ inl p ↦ p | inr p ↦ absurd cc ]

pub after_same : (r : Facts) (go : Facts → Type 0) (xs : List Lit) → any_true r xs ≡ true → go r → after_one_clause xs r go
after_same r go [] h k = absurd cc
after_same r go (e ∷ []) h k = at_true _ _ _ (lone r e h) k
after_same r go (e ∷ f ∷ more) h k = at_true _ _ _ h k

pub after_cut : (r : Facts) (go : Facts → Type 0) (xs : List Lit) (e : Lit) → xs ≡ e ∷ [] → (r e ≡ true → go r) → (r e ≡ false → go (adding e r)) → after_one_clause xs r go
after_cut r go xs e h f g = subst (λ (ys : List Lit). after_one_clause ys r go) (sym h) (elim (cases_Bool (r e)) [
  | inl p ↦ at_true _ _ _ p (f p)
  | inr p ↦ at_false _ _ _ p (g p)
])

-- adding by what is true there already changes nothing
pub inside_cut : (e : Lit) (r s : Facts) → Narrower s r → World s → s e ≡ true → Narrower s (adding e r)
inside_cut e r s i w h m p = elim (or_cases _ _ p) [ inl q ↦ w.closed e m h q | inr q ↦ i m q ]

pub cut_inside : (e : Lit) (r s : Facts) → Narrower s r → Narrower (adding e s) (adding e r)
cut_inside e r s i m p = elim (or_cases _ _ p) [ inl q ↦ or_left _ _ q | inr q ↦ or_right _ _ (i m q) ]

from_step : (r s : Facts) (c : List Lit) (cs : List (List Lit)) → Narrower s r → World s
    → ((t u : Facts) → Narrower u t → World u → meets cs t → meets cs u) → Step r c (meets cs) → meets (c ∷ cs) s
from_step r s c cs i w ih (Conflict h) = step_conflict s c (meets cs) (left s c) refl (none_left r s i c h)
from_step r s c cs i w ih (Same h k) = after_same s (meets cs) (left s c) (some_true r s i w c h) (ih r s i w k)
from_step r s c cs i w ih (Cut e h at k) = elim (one_left r s i c e h) [
  | inl none ↦ step_conflict s c (meets cs) (left s c) refl none
  | inr one ↦ after_cut s (meets cs) (left s c) e one
      (λ t. ih (adding e r) s (inside_cut e r s i w t) w k)
      (λ f. ih (adding e r) (adding e s) (cut_inside e r s i) (cut_world e s w (left_free s c e one)) k)
]

-- THE MONOTONE REPLAY: what meets a conflict from a room meets one from each room inside it
pub ends_inside : (cs : List (List Lit)) (r s : Facts) → Narrower s r → World s → meets cs r → meets cs s
ends_inside [] r s i w h = h
ends_inside (c ∷ cs) r s i w h = from_step r s c cs i w (λ t u. ends_inside cs t u) (step_view r c (meets cs) (left r c) refl h)

none_of_false : (r : Facts) (c : List Lit) → AllDenied r c → left r c ≡ []
none_of_false r [] h = refl
none_of_false r (l ∷ c) h = cond-true (r (negation l)) _ _ h.0 ∙ none_of_false r c h.1

at_only : (b : Bool) (l e : Lit) (xs : List Lit) → l ≡ e → xs ≡ [] → (cond b xs (l ∷ xs) ≡ []) ⊎ (cond b xs (l ∷ xs) ≡ e ∷ [])
at_only true l e xs p q = inl q
at_only false l e xs p q = inr cc

only_left : (r : Facts) (e : Lit) (c : List Lit) → OnlyLeft r e c → (left r c ≡ []) ⊎ (left r c ≡ e ∷ [])
only_left r e [] h = absurd h
only_left r e (l ∷ c) (inl h) = at_only (r (negation l)) l e (left r c) h.0 (none_of_false r c h.1)
only_left r e (l ∷ c) (inr h) = elim (only_left r e c h.1) [
  | inl p ↦ inl (cond-true (r (negation l)) _ _ h.0 ∙ p)
  | inr p ↦ inr (cond-true (r (negation l)) _ _ h.0 ∙ p)
]

-- THE STEP BACK: where all but e of the clause is false, the clause may be put in front
pub ends_before : (r : Facts) (e : Lit) (c : List Lit) (cs : List (List Lit)) → World r → OnlyLeft r e c
    → meets cs (adding e r) → meets (c ∷ cs) r
ends_before r e c cs w only h = elim (only_left r e c only) [
  | inl none ↦ step_conflict r c (meets cs) (left r c) refl none
  | inr one ↦ after_cut r (meets cs) (left r c) e one (λ t. ends_inside cs (adding e r) r (inside_cut e r r (λ m p. p) w t) w h) (λ f. h)
]

pub ends_conflict : (r : Facts) (c : List Lit) → AllDenied r c → meets (c ∷ []) r
ends_conflict r c h = step_conflict r c (meets []) (left r c) refl (none_of_false r c h)
