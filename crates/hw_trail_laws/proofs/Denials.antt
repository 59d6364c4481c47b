-- What the denied room of a normal clause knows, and that it is a room.
use Rattle.std.proofs.Common.{◌≡◌, ◌⊎◌, ℕ, ◌+◌, ◌-◌, ◌<◌, ◌≤◌, Bool, true, false, List, [], ◌∷◌, Option, Some, None, refl, sym, ap, ◌∙◌, subst, arith, inl, inr, nat_lt, nat_le}
use Rattle.std.proofs.lemmas.Bool.{and_parts, and_from, or_cases, or_left, or_right, leb-true, ltb-true, le-leb, lt-ltb}
use Rattle.hw_model.specs.declared.lit.Lit.{Lit}
use Rattle.hw_model.specs.declared.lit.Lit.TheVariants.{AtOrAfter, Before, First, NotFirst}
use Rattle.hw_model.specs.declared.order.Order.TheVariants as orders
use Rattle.hw_model.specs.declared.shape.Shape.{Shape}
use Rattle.hw_model.specs.Lits.{negation, lit_fits, keeps_form, is_earlier, place_of, first_bad_from, IsClause}
use Rattle.hw_model.specs.Limits.{ShapeFits}
use Rattle.hw_model.specs.Rooms.{RoomModel, IsRoomOf, order_of, whole_room}
use Rattle.hw_model.specs.Narrowing.{cut, denied_from, denied}
use Rattle.hw_model.specs.RefutingComputed.{is_first, is_not_first}
use Rattle.hw_model.specs.Lits.{IsLitOf}
use Rattle.hw_model_laws.proofs.Ranges.{IsFull, other_order}
use Rattle.hw_model_laws.proofs.Cuts.{NoOrderSet, full_cut, same_ships}
use Rattle.hw_model_laws.proofs.Places.{earlier_trans, not_itself}
use Rattle.hw_model_laws.proofs.Denials.{lit_of, negation_of, no_bad, whole_full, whole_unset}
use Rattle.hw_model.proofs.Kept.{whole_is}
use Rattle.hw_model_laws.proofs.Denying.{whole_range}
use Rattle.hw_trail_laws.specs.Sides.{implies}
use Rattle.hw_trail_laws.specs.Replays.{Facts}
use Rattle.hw_trail_laws.specs.Walks.{InClause, denying, CoveredByLemma}
use Rattle.hw_trail_laws.specs.Knowing.{knows, always}
use Rattle.hw_trail_laws.proofs.Ends.{denied_parts, denied_from as from_denying, denied_start}
use Rattle.hw_trail_laws.proofs.Knowing.{after_true, after_from, before_true, before_from, pair_true, cut_in, cut_out}

-- ---- the literals of a normal clause

pub in_fits : (shape : Shape) (clause : List Lit) (place : ℕ) (before : Option Lit) → first_bad_from shape place before clause ≡ None → (l : Lit) → InClause l clause → lit_fits shape l ≡ true
in_fits shape [] place before e l i = absurd i
in_fits shape (lit ∷ more) place before e l (inl same) = subst (λ (m : Lit). lit_fits shape m ≡ true) same (no_bad (lit_fits shape lit) (keeps_form before lit) _ _ _ e).0
in_fits shape (lit ∷ more) place before e l (inr i) = in_fits shape more (place + 1) (Some lit) (no_bad (lit_fits shape lit) (keeps_form before lit) _ _ _ e).2 l i

-- the pair stands after the literal in a normal clause, or there is none
abbrev IsLater : Option Lit → ℕ → ℕ → Type 0
IsLater None v w = Unit {0}
IsLater (Some lit) v w = is_earlier (place_of lit) (1, v, w) ≡ true

-- the pairs after this literal aren't set
abbrev LaterUnset : RoomModel → Option Lit → Type 0
LaterUnset room before = (v w : ℕ) → w < room.ships → IsLater before v w → order_of room v w ≡ orders.Unset

later_too : (before : Option Lit) (lit : Lit) (v w : ℕ) → keeps_form before lit ≡ true → IsLater (Some lit) v w → IsLater before v w
later_too None lit v w k h = tt
later_too (Some b) lit v w k h = earlier_trans (place_of b) (place_of lit) (1, v, w) (and_parts _ _ k).0 h

own_pair : (before : Option Lit) (lit : Lit) (v w : ℕ) → place_of lit ≡ (1, v, w) → keeps_form before lit ≡ true → IsLater before v w
own_pair None lit v w e k = tt
own_pair (Some b) lit v w e k = subst (λ p. is_earlier (place_of b) p ≡ true) e (and_parts _ _ k).0

still_unset : (room : RoomModel) (before : Option Lit) (lit : Lit) → IsLitOf room.ships lit → keeps_form before lit ≡ true → LaterUnset room before → NoOrderSet room (negation lit)
still_unset room before (AtOrAfter ship slot) fits k h = tt
still_unset room before (Before ship slot) fits k h = tt
still_unset room before (First v w) fits k h = h v w fits.1 (own_pair before (First v w) v w refl k)
still_unset room before (NotFirst v w) fits k h = h v w fits.1 (own_pair before (NotFirst v w) v w refl k)

next_unset : (room : RoomModel) (before : Option Lit) (lit : Lit) → IsLitOf room.ships lit → keeps_form before lit ≡ true → LaterUnset room before → LaterUnset (cut (negation lit) room) (Some lit)
next_unset room before (AtOrAfter ship slot) fits k h = λ v w lt later. h v w lt (later_too before (AtOrAfter ship slot) v w k later)
next_unset room before (Before ship slot) fits k h = λ v w lt later. h v w lt (later_too before (Before ship slot) v w k later)
next_unset room before (First a b) fits k h = λ v w lt later. other_order room a b v w orders.NotFirst fits.1 lt (λ e. not_itself 1 a b 1 v w refl (sym e.0) (sym e.1) later) ∙ h v w lt (later_too before (First a b) v w k later)
next_unset room before (NotFirst a b) fits k h = λ v w lt later. other_order room a b v w orders.First fits.1 lt (λ e. not_itself 1 a b 1 v w refl (sym e.0) (sym e.1) later) ∙ h v w lt (later_too before (NotFirst a b) v w k later)

-- ---- what is known while a clause is denied

from_out : (shape : Shape) (clause : List Lit) (room : RoomModel) (place : ℕ) (before : Option Lit) → IsFull room → room.ships ≡ shape.ships → first_bad_from shape place before clause ≡ None → (m : Lit) → knows (denied_from room clause) m ≡ true → (knows room m ≡ true) ⊎ CoveredByLemma (knows room) clause m
from_out shape [] room place before full ships e m h = inl h
from_out shape (lit ∷ more) room place before full ships e m h =
    let good = no_bad (lit_fits shape lit) (keeps_form before lit) _ _ _ e in
    let fits : IsLitOf room.ships lit = subst (λ n. IsLitOf n lit) (sym ships) (lit_of shape lit good.0) in
    let fits' : IsLitOf room.ships (negation lit) = negation_of _ lit fits in
    elim (from_out shape more (cut (negation lit) room) (place + 1) (Some lit) (full_cut room (negation lit) full) (same_ships room (negation lit) ∙ ships) good.2 m h) [
      | inl y ↦ elim (or_cases _ _ (cut_out room full (negation lit) fits' m y)) [
        | inl z ↦ inr (record { by = lit; within = inl refl; implied = z })
        | inr z ↦ inl z
      ]
      | inr c ↦ inr (record { by = c.by; within = inr c.within; implied = c.implied })
    ]

from_in : (shape : Shape) (clause : List Lit) (room : RoomModel) (place : ℕ) (before : Option Lit) → IsFull room → room.ships ≡ shape.ships → LaterUnset room before → first_bad_from shape place before clause ≡ None → (m : Lit) → (knows room m ≡ true) ⊎ CoveredByLemma (knows room) clause m → knows (denied_from room clause) m ≡ true
from_in shape [] room place before full ships unset e m (inl h) = h
from_in shape [] room place before full ships unset e m (inr c) = absurd c.within
from_in shape (lit ∷ more) room place before full ships unset e m h =
    let good = no_bad (lit_fits shape lit) (keeps_form before lit) _ _ _ e in
    let fits : IsLitOf room.ships lit = subst (λ n. IsLitOf n lit) (sym ships) (lit_of shape lit good.0) in
    let fits' : IsLitOf room.ships (negation lit) = negation_of _ lit fits in
    let none = still_unset room before lit fits good.1 unset in
    from_in shape more (cut (negation lit) room) (place + 1) (Some lit) (full_cut room (negation lit) full) (same_ships room (negation lit) ∙ ships) (next_unset room before lit fits good.1 unset) good.2 m (
    elim h [
      | inl y ↦ inl (cut_in room full (negation lit) fits' none m (or_right _ _ y))
      | inr c ↦ elim (c.within) [
        | inl same ↦ inl (cut_in room full (negation lit) fits' none m (or_left _ _ (subst (λ (x : Lit). implies (negation x) m ≡ true) (sym same) c.implied)))
        | inr i ↦ inr (record { by = c.by; within = i; implied = c.implied })
      ]
    ])

-- ---- the whole room

pub whole_knows : (shape : Shape) → 1 ≤ shape.slots → (m : Lit) → knows (whole_room shape) m ≡ true → always shape.ships shape.slots m ≡ true
whole_knows shape some (AtOrAfter v k) h =
    let a = after_true shape.ships v k _ h in
    let e = whole_range shape v a.0 in
    after_from shape.ships v k 0 a.0 (omega (arith, a.1, e.0))
whole_knows shape some (Before v k) h =
    let a = before_true shape.ships v k _ h in
    let e = whole_range shape v a.0 in
    past shape.ships v shape.slots k a.0 (omega (arith, a.1, e.1, some))
  where
    past : (ships v slots k : ℕ) → v < ships → slots ≤ k → always ships slots (Before v k) ≡ true
    past ships v slots k lt le = and_from _ _ (lt-ltb _ _ lt) (le-leb slots k le)
whole_knows shape some (First v w) h =
    let a = pair_true shape.ships v w _ h in
    absurd (unset (is_first (order_of (whole_room shape) v w)) a.2 (ap is_first (whole_unset shape v w)))
  where
    unset : (b : Bool) → b ≡ true → b ≡ false → ⊥
    unset b y n = cc
whole_knows shape some (NotFirst v w) h =
    let a = pair_true shape.ships v w _ h in
    absurd (unset (is_not_first (order_of (whole_room shape) v w)) a.2 (ap is_not_first (whole_unset shape v w)))
  where
    unset : (b : Bool) → b ≡ true → b ≡ false → ⊥
    unset b y n = cc

pub knows_whole : (shape : Shape) → 1 ≤ shape.slots → (m : Lit) → always shape.ships shape.slots m ≡ true → knows (whole_room shape) m ≡ true
knows_whole shape some (AtOrAfter v k) h =
    let a = after_true shape.ships v k 0 h in
    after_from shape.ships v k _ a.0 (omega (arith, a.1))
knows_whole shape some (Before v k) h =
    let a = and_parts (nat_lt v shape.ships) (nat_le shape.slots k) h in
    let lt : v < shape.ships = ltb-true _ _ a.0 in
    let le : shape.slots ≤ k = leb-true _ _ a.1 in
    let e = whole_range shape v lt in
    before_from shape.ships v k _ lt (omega (arith, le, e.1, some))
knows_whole shape some (First v w) h = absurd cc
knows_whole shape some (NotFirst v w) h = absurd cc

-- ---- the denied room

covered_by : (r s : Facts) (c : List Lit) (m : Lit) → CoveredByLemma r c m → CoveredByLemma s c m
covered_by r s c m h = record { by = h.by; within = h.within; implied = h.implied }

pub denied_knows : (shape : Shape) (clause : List Lit) → 1 ≤ shape.slots → IsClause shape clause → (m : Lit) → knows (denied shape clause) m ≡ true → denying (always shape.ships shape.slots) clause m ≡ true
denied_knows shape clause some is m h = elim (from_out shape clause (whole_room shape) 0 None (whole_full shape) refl is m h) [
  | inl y ↦ denied_start (always shape.ships shape.slots) clause m (whole_knows shape some m y)
  | inr c ↦ from_denying (always shape.ships shape.slots) clause c.by m c.within c.implied
]

pub knows_denied : (shape : Shape) (clause : List Lit) → 1 ≤ shape.slots → IsClause shape clause → (m : Lit) → denying (always shape.ships shape.slots) clause m ≡ true → knows (denied shape clause) m ≡ true
knows_denied shape clause some is m h =
    from_in shape clause (whole_room shape) 0 None (whole_full shape) refl (λ v w lt later. whole_unset shape v w) is m (
    elim (denied_parts (always shape.ships shape.slots) clause m h) [
      | inl o ↦ inl (knows_whole shape some m o)
      | inr c ↦ inr (covered_by _ _ clause m c)
    ])

-- ---- it is a room

pub whole_of : (shape : Shape) → ShapeFits shape → IsRoomOf shape (whole_room shape)
whole_of shape sized = record { is_room = whole_is shape sized; same_ships = refl; same_slots = refl }
