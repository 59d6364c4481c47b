-- The denied room of a clause holds the timetables of which the clause isn't true.
use Rattle.std.proofs.Common.{◌≡◌, ℕ, ◌-◌, ◌+◌, ◌*◌, ◌<◌, ◌≤◌, Bool, true, false, cond, not, nat_lt, nat_le, List, [], ◌∷◌, Option, Some, None, length, replicate, slice_index, get_or, refl, sym, ◌∙◌, subst, arith, inl, inr, IsTrue, zero-le}
use Rattle.std.proofs.lemmas.Bool.{ltb-true, leb-true, ltb-false, leb-false, lt-ltb, le-leb, le-ltb, lt-leb, and_parts, or_parts, or_from, cases_lt}
use Rattle.std.proofs.lemmas.List.{get_or-replicate, length-replicate, get_or_past}
use Rattle.hw_model.specs.declared.lit.Lit.{Lit}
use Rattle.hw_model.specs.declared.lit.Lit.TheVariants as lits
use Rattle.hw_model.specs.declared.order.Order.TheVariants.{Unset, First, NotFirst}
use Rattle.hw_model.specs.declared.shape.Shape.{Shape}
use Rattle.hw_model.specs.Problem.{Problem, IsTimetable, shape_of}
use Rattle.hw_model.specs.Lits.{negation, lit_holds, clause_holds, lit_fits, keeps_form, is_earlier, place_of, BadLit, first_bad_from, IsClause, IsLitOf}
use Rattle.hw_model.specs.Rooms.{RoomModel, Inside, agrees, order_of, whole_room}
use Rattle.hw_model.specs.Narrowing.{cut, denied_from, denied}
use Rattle.hw_model_laws.proofs.Ranges.{IsFull, other_order}
use Rattle.hw_model_laws.proofs.Cuts.{NoOrderSet, full_cut, same_ships, into_cut, out_of_cut}
use Rattle.hw_model_laws.proofs.Places.{earlier_trans, not_itself}

-- ---- literals

pub lit_of : (shape : Shape) (lit : Lit) → lit_fits shape lit ≡ true → IsLitOf shape.ships lit
lit_of shape (lits.AtOrAfter ship slot) e =
    let p = and_parts (nat_lt ship shape.ships) _ e in
    let q = and_parts (nat_le 1 slot) _ p.1 in
    (ltb-true _ _ p.0, leb-true _ _ q.0)
lit_of shape (lits.Before ship slot) e =
    let p = and_parts (nat_lt ship shape.ships) _ e in
    let q = and_parts (nat_le 1 slot) _ p.1 in
    (ltb-true _ _ p.0, leb-true _ _ q.0)
lit_of shape (lits.First v w) e =
    let p = and_parts (nat_lt v w) _ e in
    (ltb-true _ _ p.0, ltb-true _ _ p.1)
lit_of shape (lits.NotFirst v w) e =
    let p = and_parts (nat_lt v w) _ e in
    (ltb-true _ _ p.0, ltb-true _ _ p.1)

pub negation_of : (ships : ℕ) (lit : Lit) → IsLitOf ships lit → IsLitOf ships (negation lit)
negation_of ships (lits.AtOrAfter ship slot) h = h
negation_of ships (lits.Before ship slot) h = h
negation_of ships (lits.First v w) h = h
negation_of ships (lits.NotFirst v w) h = h

pub negated : (table : List ℕ) (lit : Lit) → lit_holds table lit ≡ false → lit_holds table (negation lit) ≡ true
negated table (lits.AtOrAfter ship slot) e = lt-ltb _ _ (leb-false _ _ e)
negated table (lits.Before ship slot) e = le-leb _ _ (ltb-false _ _ e)
negated table (lits.First v w) e = le-leb _ _ (ltb-false _ _ e)
negated table (lits.NotFirst v w) e = lt-ltb _ _ (leb-false _ _ e)

pub not_negated : (table : List ℕ) (lit : Lit) → lit_holds table (negation lit) ≡ true → lit_holds table lit ≡ false
not_negated table (lits.AtOrAfter ship slot) e = lt-leb _ _ (ltb-true _ _ e)
not_negated table (lits.Before ship slot) e = le-ltb _ _ (leb-true _ _ e)
not_negated table (lits.First v w) e = le-ltb _ _ (leb-true _ _ e)
not_negated table (lits.NotFirst v w) e = lt-leb _ _ (ltb-true _ _ e)

-- ---- normal clauses

pub no_bad : (a b : Bool) (x y : BadLit) (z : Option BadLit) → cond (not a) (Some x) (cond (not b) (Some y) z) ≡ None → (a ≡ true) × (b ≡ true) × (z ≡ None)
no_bad true true x y z e = (refl, refl, e)
no_bad true false x y z e = absurd cc
no_bad false b x y z e = absurd cc

-- the pair stands after the literal in a normal clause, or there is none
abbrev IsLater : Option Lit → ℕ → ℕ → Type 0
IsLater None v w = Unit {0}
IsLater (Some lit) v w = is_earlier (place_of lit) (1, v, w) ≡ true

-- the pairs after this literal aren't set
abbrev LaterUnset : RoomModel → Option Lit → Type 0
LaterUnset room before = (v w : ℕ) → w < room.ships → IsLater before v w → order_of room v w ≡ Unset

later_too : (before : Option Lit) (lit : Lit) (v w : ℕ) → keeps_form before lit ≡ true → IsLater (Some lit) v w → IsLater before v w
later_too None lit v w k h = tt
later_too (Some b) lit v w k h = earlier_trans (place_of b) (place_of lit) (1, v, w) (and_parts _ _ k).0 h

own_pair : (before : Option Lit) (lit : Lit) (v w : ℕ) → place_of lit ≡ (1, v, w) → keeps_form before lit ≡ true → IsLater before v w
own_pair None lit v w e k = tt
own_pair (Some b) lit v w e k = subst (λ p. is_earlier (place_of b) p ≡ true) e (and_parts _ _ k).0

still_unset : (room : RoomModel) (before : Option Lit) (lit : Lit) → IsLitOf room.ships lit → keeps_form before lit ≡ true → LaterUnset room before → NoOrderSet room (negation lit)
still_unset room before (lits.AtOrAfter ship slot) fits k h = tt
still_unset room before (lits.Before ship slot) fits k h = tt
still_unset room before (lits.First v w) fits k h = h v w fits.1 (own_pair before (lits.First v w) v w refl k)
still_unset room before (lits.NotFirst v w) fits k h = h v w fits.1 (own_pair before (lits.NotFirst v w) v w refl k)

next_unset : (room : RoomModel) (before : Option Lit) (lit : Lit) → IsLitOf room.ships lit → keeps_form before lit ≡ true → LaterUnset room before → LaterUnset (cut (negation lit) room) (Some lit)
next_unset room before (lits.AtOrAfter ship slot) fits k h = λ v w lt later. h v w lt (later_too before (lits.AtOrAfter ship slot) v w k later)
next_unset room before (lits.Before ship slot) fits k h = λ v w lt later. h v w lt (later_too before (lits.Before ship slot) v w k later)
next_unset room before (lits.First a b) fits k h = λ v w lt later. other_order room a b v w NotFirst fits.1 lt (λ e. not_itself 1 a b 1 v w refl (sym e.0) (sym e.1) later) ∙ h v w lt (later_too before (lits.First a b) v w k later)
next_unset room before (lits.NotFirst a b) fits k h = λ v w lt later. other_order room a b v w First fits.1 lt (λ e. not_itself 1 a b 1 v w refl (sym e.0) (sym e.1) later) ∙ h v w lt (later_too before (lits.NotFirst a b) v w k later)

-- ---- the denied room

pub denied_is : (shape : Shape) (table : List ℕ) (clause : List Lit) (room : RoomModel) (place : ℕ) (before : Option Lit) → IsFull room → room.ships ≡ shape.ships → LaterUnset room before → first_bad_from shape place before clause ≡ None → ((Inside table (denied_from room clause) → Inside table room × (clause_holds table clause ≡ false)) × (Inside table room → clause_holds table clause ≡ false → Inside table (denied_from room clause)))
denied_is shape table [] room place before full ships unset e = (λ h. (h, refl), λ h n. h)
denied_is shape table (lit ∷ more) room place before full ships unset e =
    let good = no_bad (lit_fits shape lit) (keeps_form before lit) _ _ _ e in
    let fits : IsLitOf room.ships lit = subst (λ n. IsLitOf n lit) (sym ships) (lit_of shape lit good.0) in
    let fits' : IsLitOf room.ships (negation lit) = negation_of _ lit fits in
    let free = still_unset room before lit fits good.1 unset in
    let rest = denied_is shape table more (cut (negation lit) room) (place + 1) (Some lit) (full_cut room (negation lit) full) (same_ships room (negation lit) ∙ ships) (next_unset room before lit fits good.1 unset) good.2 in (
      λ h.
          let r = rest.0 h in
          let c = out_of_cut room table (negation lit) full fits' free r.0 in
          (c.0, or_from (lit_holds table lit) (clause_holds table more) (not_negated table lit c.1) r.1),
      λ h n.
          let p = or_parts (lit_holds table lit) (clause_holds table more) n in
          rest.1 (into_cut room table (negation lit) full fits' h (negated table lit p.0)) p.1,
    )

-- ---- the whole room

pub whole_full : (shape : Shape) → IsFull (whole_room shape)
whole_full shape = record { each_ship = length-replicate shape.ships _; each_pair = length-replicate (shape.ships * shape.ships) _ }

pub whole_unset : (shape : Shape) (v w : ℕ) → order_of (whole_room shape) v w ≡ Unset
whole_unset shape v w = elim (cases_lt (v * shape.ships + w) (shape.ships * shape.ships)) [
  | inl lt ↦ get_or-replicate (shape.ships * shape.ships) (v * shape.ships + w) Unset Unset lt
  | inr past ↦ get_or_past (replicate (shape.ships * shape.ships) Unset) (v * shape.ships + w) Unset (omega (arith, past, length-replicate (shape.ships * shape.ships) Unset))
]

below : (t slots : ℕ) → t < slots → t ≤ slots - 1
below t slots lt = omega (arith, lt)

as_long : (ship ships long : ℕ) → ship < ships → long ≡ ships → ship < long
as_long ship ships long lt e = omega (arith, lt, e)

pub inside_whole : (f : Problem) (table : List ℕ) → IsTimetable f table → Inside table (whole_room (shape_of f))
inside_whole f table is = record {
  each_ship = is.each_ship;
  ranges = λ ship lt.
      let e : get_or (replicate f.ships (0, f.slots - 1)) ship (0, 0) ≡ (0, f.slots - 1) = get_or-replicate f.ships ship (0, f.slots - 1) (0, 0) lt in
      let t : slice_index table ship < f.slots = is.each_slot ship 0 (as_long ship f.ships (length table) lt is.each_ship) in
      subst (λ (p : ℕ × ℕ). (p.0 ≤ slice_index table ship) × (slice_index table ship ≤ p.1)) (sym e) (zero-le, below (slice_index table ship) f.slots t);
  orders = λ v w vw lt. subst (λ o. IsTrue (agrees o (slice_index table v) (slice_index table w))) (sym (whole_unset (shape_of f) v w)) refl;
}

pub denied_law : (f : Problem) (clause : List Lit) (table : List ℕ) → IsClause (shape_of f) clause → IsTimetable f table → ((Inside table (denied (shape_of f) clause) → clause_holds table clause ≡ false) × (clause_holds table clause ≡ false → Inside table (denied (shape_of f) clause)))
denied_law f clause table is listed =
    let both = denied_is (shape_of f) table clause (whole_room (shape_of f)) 0 None (whole_full (shape_of f)) refl (λ v w lt later. whole_unset (shape_of f) v w) is in
    (λ h. (both.0 h).1, λ n. both.1 (inside_whole f table listed) n)
