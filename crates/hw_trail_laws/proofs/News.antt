-- No lemma lies inside an earlier one.
use Rattle.std.proofs.Common.{◌≡◌, ℕ, ◌<◌, ◌≤◌, true, false, refl, arith, ◌⊎◌, inl, inr, List, [], subst}
use Rattle.std.proofs.lemmas.Bool.{cases_Bool, cases_lt}
use Rattle.hw_model.specs.declared.lit.Lit.{Lit}
use Rattle.hw_model.specs.declared.lit.Lit.TheVariants.{AtOrAfter, Before, First, NotFirst}
use Rattle.hw_model.specs.Lits.{negation}
use Rattle.hw_trail_laws.specs.Sides.{same_side, implies}
use Rattle.hw_trail_laws.specs.Replays.{Facts, Narrower, World}
use Rattle.hw_trail_laws.specs.Stories.{Story, room_at, IsStory}
use Rattle.hw_trail_laws.specs.Walks.{InClause, denying, story_level}
use Rattle.hw_trail_laws.specs.News.{Free, Quiet, OneASide}
use Rattle.hw_trail_laws.specs.News.Quiet.{ByTrue, ByTwo}
use Rattle.hw_trail_laws.proofs.Sides.{implies_self, same_when_implied, same_sym, same_trans, SameSide, same_parts, same_from}
use Rattle.hw_trail_laws.proofs.Stories.{room_falls}
use Rattle.hw_trail_laws.proofs.Ends.{denied_parts, denied_from, became}

clash : (r : Facts) (m : Lit) → r m ≡ true → r m ≡ false → ⊥
clash r m y n = cc

-- the negations of two literals are of one side where these are
neg_side : (l m : Lit) → same_side (negation l) (negation m) ≡ true → same_side l m ≡ true
neg_side l m h = same_from l m (side_parts l m (same_parts (negation l) (negation m) h))
  where
    side_parts : (l m : Lit) → SameSide (negation l) (negation m) → SameSide l m
    side_parts (AtOrAfter v k) (AtOrAfter w j) p = record { kinds = refl; ones = p.ones; others = p.others }
    side_parts (Before v k) (Before w j) p = record { kinds = refl; ones = p.ones; others = p.others }
    side_parts (First v k) (First w j) p = record { kinds = refl; ones = p.ones; others = p.others }
    side_parts (NotFirst v k) (NotFirst w j) p = record { kinds = refl; ones = p.ones; others = p.others }
    side_parts _ _ p = absurd (omega (arith, p.kinds))

-- below: the room at the end of the level below; now: the room of the conflict, inside it. All literals of the new lemma but u are false below
pub record Fresh (start below now : Facts) (u : Lit) (lemma : List Lit) : Type 0 where
  pub below_world : World below
  pub now_world : World now
  pub basic : Narrower below start
  pub inside : Narrower now below
  pub one : InClause u lemma
  pub u_false : now (negation u) ≡ true
  pub rest : (l : Lit) → InClause l lemma → (l ≡ u) ⊎ (below (negation l) ≡ true)

-- each literal of the earlier lemma is false below, or of the side of u
old_false : (start below now : Facts) (u : Lit) (lemma old : List Lit) → Fresh start below now u lemma → Narrower (denying start lemma) (denying start old) → (l : Lit) → InClause l old
    → (below (negation l) ≡ true) ⊎ (implies (negation u) (negation l) ≡ true)
old_false start below now u lemma old f i l k =
    elim (denied_parts start lemma (negation l) (i (negation l) (denied_from start old l (negation l) k (implies_self (negation l))))) [
      | inl o ↦ inl (f.basic (negation l) o)
      | inr c ↦ elim (f.rest c.by c.within) [
        | inl e ↦ inr (subst (λ (x : Lit). implies (negation x) (negation l) ≡ true) e c.implied)
        | inr y ↦ inl (f.below_world.closed (negation c.by) (negation l) y c.implied)
      ]
    ]

no_true : (start below now : Facts) (u : Lit) (lemma old : List Lit) → Fresh start below now u lemma → Narrower (denying start lemma) (denying start old) → (l : Lit) → InClause l old → below l ≡ true → ⊥
no_true start below now u lemma old f i l k y = elim (old_false start below now u lemma old f i l k) [
  | inl z ↦ f.below_world.consistent l y z
  | inr z ↦ f.now_world.consistent l (f.inside l y) (f.now_world.closed (negation u) (negation l) f.u_false z)
]

free_side : (start below now : Facts) (u : Lit) (lemma old : List Lit) → Fresh start below now u lemma → Narrower (denying start lemma) (denying start old) → (l : Lit) → InClause l old → Free below l
    → same_side (negation u) (negation l) ≡ true
free_side start below now u lemma old f i l k free = elim (old_false start below now u lemma old f i l k) [
  | inl z ↦ absurd (clash below (negation l) z free.not_false)
  | inr z ↦ same_when_implied _ _ z
]

-- THE KEY OF "NO USELESS LEMMA": a clause that is quiet at the end of the level below has no denying room around the new lemma's
pub never_inside : (start below now : Facts) (u : Lit) (lemma old : List Lit) → Fresh start below now u lemma → OneASide old → Quiet below old → Narrower (denying start lemma) (denying start old) → ⊥
never_inside start below now u lemma old f n (ByTrue l k y) i = no_true start below now u lemma old f i l k y
never_inside start below now u lemma old f n (ByTwo l m k k2 ne fl fm) i =
    ne (n l m k k2 (neg_side l m (same_trans _ _ _ (same_sym _ _ (free_side start below now u lemma old f i l k fl)) (free_side start below now u lemma old f i m k2 fm))))

-- a lemma without literals lies inside no clause with one: the whole room knows nothing
pub empty_outside : (start : Facts) (old : List Lit) (l : Lit) → InClause l old → start (negation l) ≡ false → Narrower (denying start []) (denying start old) → ⊥
empty_outside start old l k fresh i = clash start (negation l) (i (negation l) (denied_from start old l (negation l) k (implies_self (negation l)))) fresh

-- KEPT: where two literals of the lemma aren't false, it is quiet
pub two_open : (r : Facts) (c : List Lit) (l m : Lit) → InClause l c → InClause m c → (l ≡ m → ⊥) → r (negation l) ≡ false → r (negation m) ≡ false → Quiet r c
two_open r c l m k k2 ne fl fm = elim (cases_Bool (r l)) [
  | inl y ↦ ByTrue l k y
  | inr y ↦ elim (cases_Bool (r m)) [
    | inl z ↦ ByTrue m k2 z
    | inr z ↦ ByTwo l m k k2 ne (record { not_true = y; not_false = fl }) (record { not_true = z; not_false = fm })
  ]
]

-- a literal isn't false in the room at the end of a level below its own
pub open_below : (t : Story) (n : ℕ) → IsStory t n → (l : Lit) → t.start (negation l) ≡ false → room_at t n (negation l) ≡ true → (level place : ℕ) → level < story_level t n l
    → ((q : ℕ) → q < place → (t.at q).level ≤ level) → room_at t place (negation l) ≡ false
open_below t n s l fresh y level place lt low =
    let w = became t n l fresh y in
    elim (cases_lt w.place place) [
      | inl q ↦ absurd (omega (arith, low w.place q, w.level))
      | inr q ↦ room_falls t place w.place q (negation l) w.before
    ]

-- going back to `back` and adding the lemma: it is quiet at the end of each level below back
pub quiet_below_back : (t : Story) (n : ℕ) → IsStory t n → (lemma : List Lit) (l m : Lit) → InClause l lemma → InClause m lemma → (l ≡ m → ⊥)
    → t.start (negation l) ≡ false → t.start (negation m) ≡ false → room_at t n (negation l) ≡ true → room_at t n (negation m) ≡ true → (level place : ℕ) → level < story_level t n l → level < story_level t n m
    → ((q : ℕ) → q < place → (t.at q).level ≤ level) → Quiet (room_at t place) lemma
quiet_below_back t n s lemma l m k k2 ne f g y z level place lt lt2 low =
    two_open (room_at t place) lemma l m k k2 ne (open_below t n s l f y level place lt low) (open_below t n s m g z level place lt2 low)
