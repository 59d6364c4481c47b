-- The room while a normal clause is denied, literal by literal: also what the loop of a denial keeps.
use Rattle.std.proofs.Common.{◌≡◌, ◌≢◌, ◌⊎◌, ℕ, ◌+◌, ◌-◌, ◌<◌, ◌≤◌, min, max, Bool, true, false, not, ◌||◌, List, [], ◌∷◌, Option, Some, None, length, replicate, get_or, refl, sym, ap, ◌∙◌, subst, arith, inl, inr, nat_lt, nat_le, nat_eq}
use Rattle.std.proofs.lemmas.Bool.{cases_eq, and_parts, or_cases, ltb-true, leb-true, eq-eqb}
use Rattle.std.proofs.lemmas.List.{get_or-replicate}
use Rattle.std.proofs.lemmas.List.Elements.{All-from_get_or}
use Rattle.hw_model.specs.declared.lit.Lit.{Lit}
use Rattle.hw_model.specs.declared.lit.Lit.TheVariants as lits
use Rattle.hw_model.specs.declared.order.Order.TheVariants.{Unset}
use Rattle.hw_model.specs.declared.shape.Shape.{Shape}
use Rattle.hw_model.specs.Problem.{Problem, shape_of}
use Rattle.hw_model.specs.Limits.{IsFlat, ShapeFits}
use Rattle.hw_model.specs.Lits.{negation, lit_fits, keeps_form, is_earlier, place_of, first_bad_from, IsClause}
use Rattle.hw_model.specs.Rooms.{RoomModel, IsRoom, IsRoomOf, RoomFits, low_of, high_of, order_of, whole_room}
use Rattle.hw_model.specs.Narrowing.{cut, with_range, denied_from, denied}
use Rattle.hw_model.proofs.Kept.{whole_no_pair, with_order_no_pair}
use Rattle.hw_model_laws.proofs.Horizon.{horizon_le, slots_le}
use Rattle.hw_model_laws.proofs.Ranges.{IsFull}
use Rattle.hw_model_laws.proofs.Cuts.{full_cut}
use Rattle.hw_model_laws.proofs.Places.{Earlier, earlier_from, from_earlier, earlier_trans}
use Rattle.hw_model_laws.proofs.Denials.{no_bad, whole_full}
use Rattle.hw_model_laws.proofs.Bounds.{low_new, high_new, low_other, high_other}

-- the ship's literals stand after this one in a normal clause
abbrev pub IsLaterShip : Option Lit → ℕ → Type 0
IsLaterShip None ship = Unit {0}
IsLaterShip (Some lit) ship = is_earlier (place_of lit) (0, ship, 0) ≡ true

-- the range of the ship whose AtOrAfter was denied last
abbrev pub HalfDenied : RoomModel → Option Lit → Type 0
HalfDenied room None = Unit {0}
HalfDenied room (Some (lits.AtOrAfter ship slot)) = (low_of room ship ≡ 0) × (high_of room ship ≡ slot - 1)
HalfDenied room (Some (lits.Before ship slot)) = Unit {0}
HalfDenied room (Some (lits.First v w)) = Unit {0}
HalfDenied room (Some (lits.NotFirst v w)) = Unit {0}

pub record IsDenying (shape : Shape) (before : Option Lit) (room : RoomModel) : Type 0 where
  pub full : IsFull room
  pub ships : room.ships ≡ shape.ships
  pub slots : room.slots ≡ shape.slots
  pub proper : (ship : ℕ) → ship < room.ships → (low_of room ship ≤ high_of room ship) × (high_of room ship < room.slots)
  pub fresh : (ship : ℕ) → ship < room.ships → IsLaterShip before ship → (low_of room ship ≡ 0) × (high_of room ship ≡ room.slots - 1)
  pub half : HalfDenied room before
  pub no_pair : (v w : ℕ) → w ≤ v → v < room.ships → order_of room v w ≡ Unset

-- ---- places

later_ship : (before : Option Lit) (lit : Lit) (ship : ℕ) → keeps_form before lit ≡ true → IsLaterShip (Some lit) ship → IsLaterShip before ship
later_ship None lit ship k h = tt
later_ship (Some b) lit ship k h = earlier_trans (place_of b) (place_of lit) (0, ship, 0) (and_parts _ _ k).0 h

other_ship : (a c b : ℕ) → is_earlier (0, a, c) (0, b, 0) ≡ true → b ≢ a
other_ship a c b e = λ same. apart a c b same (earlier_from (0, a, c) (0, b, 0) e)
  where
    apart : (a c b : ℕ) → b ≡ a → Earlier 0 a c 0 b 0 → ⊥
    apart a c b same h = grind arith

no_ship_after : (v w ship : ℕ) → is_earlier (1, v, w) (0, ship, 0) ≡ true → ⊥
no_ship_after v w ship e = never v w ship (earlier_from (1, v, w) (0, ship, 0) e)
  where
    never : (v w ship : ℕ) → Earlier 1 v w 0 ship 0 → ⊥
    never v w ship h = grind arith

pub own_first : (before : Option Lit) (ship slot : ℕ) → keeps_form before (lits.AtOrAfter ship slot) ≡ true → IsLaterShip before ship
own_first None ship slot k = tt
own_first (Some b) ship slot k = (and_parts (is_earlier (place_of b) (0, ship, 0)) _ k).0

-- ---- the bound that a Before denies lies in what is left of the ship's range

split : (a c b : ℕ) → is_earlier (0, a, c) (0, b, 1) ≡ true → (is_earlier (0, a, c) (0, b, 0) ≡ true) ⊎ (a ≡ b)
split a c b e = elim (parts a c b (earlier_from (0, a, c) (0, b, 1) e)) [
  | inl h ↦ inl (from_earlier (0, a, c) (0, b, 0) h)
  | inr h ↦ inr h
]
  where
    parts : (a c b : ℕ) → Earlier 0 a c 0 b 1 → Earlier 0 a c 0 b 0 ⊎ (a ≡ b)
    parts a c b h = elim (cases_eq a b) [
      | inl same ↦ inr same
      | inr ne ↦ inl (less a c b ne h)
    ]
      where
        less : (a c b : ℕ) → (a ≡ b → ⊥) → Earlier 0 a c 0 b 1 → Earlier 0 a c 0 b 0
        less a c b ne h = grind arith

leaves : (v w j k : ℕ) → (not (nat_eq v w) || nat_lt j k) ≡ true → v ≡ w → j < k
leaves v w j k e same = elim (or_cases (not (nat_eq v w)) _ e) [
  | inl apart ↦ absurd (clash (nat_eq v w) apart (eq-eqb v w same))
  | inr lt ↦ ltb-true _ _ lt
]
  where
    clash : (b : Bool) → not b ≡ true → b ≡ true → ⊥
    clash true e h = cc
    clash false e h = cc

pub room_for : (shape : Shape) (before : Option Lit) (room : RoomModel) (ship slot : ℕ) → IsDenying shape before room → ship < room.ships → slot < room.slots → keeps_form before (lits.Before ship slot) ≡ true → slot ≤ high_of room ship
room_for shape None room ship slot d lt small k =
    let e = (d.fresh ship lt tt).1 in
    omega (arith, e, small)
room_for shape (Some (lits.AtOrAfter v j)) room ship slot d lt small k =
    let parts = and_parts (is_earlier (0, v, 0) (0, ship, 1)) _ k in
    elim (split v 0 ship parts.0) [
      | inl earlier ↦
          let e = (d.fresh ship lt earlier).1 in
          omega (arith, e, small)
      | inr same ↦
          let less : slot < j = leaves v ship slot j parts.1 same in
          let high : high_of room ship ≡ j - 1 = subst (λ s. high_of room s ≡ j - 1) same d.half.1 in
          omega (arith, less, high)
    ]
room_for shape (Some (lits.Before v j)) room ship slot d lt small k =
    let parts = and_parts (is_earlier (0, v, 1) (0, ship, 1)) _ k in
    elim (split v 1 ship parts.0) [
      | inl earlier ↦
          let e = (d.fresh ship lt earlier).1 in
          omega (arith, e, small)
      | inr same ↦ absurd (itself v ship same (earlier_from (0, v, 1) (0, ship, 1) parts.0))
    ]
  where
    itself : (v ship : ℕ) → v ≡ ship → Earlier 0 v 1 0 ship 1 → ⊥
    itself v ship same h = grind arith
room_for shape (Some (lits.First v w)) room ship slot d lt small k = absurd (pairs_last v w ship (earlier_from (1, v, w) (0, ship, 1) (and_parts (is_earlier (1, v, w) (0, ship, 1)) true k).0))
  where
    pairs_last : (v w ship : ℕ) → Earlier 1 v w 0 ship 1 → ⊥
    pairs_last v w ship h = grind arith
room_for shape (Some (lits.NotFirst v w)) room ship slot d lt small k = absurd (pairs_last v w ship (earlier_from (1, v, w) (0, ship, 1) (and_parts (is_earlier (1, v, w) (0, ship, 1)) true k).0))
  where
    pairs_last : (v w ship : ℕ) → Earlier 1 v w 0 ship 1 → ⊥
    pairs_last v w ship h = grind arith

-- ---- one step

-- a new range of one ship
ranged : (room : RoomModel) (ship low high : ℕ) → ship < length room.ranges → low ≤ high → high < room.slots → ((s : ℕ) → s < room.ships → (low_of room s ≤ high_of room s) × (high_of room s < room.slots)) → (s : ℕ) → s < room.ships → (low_of (with_range room ship low high) s ≤ high_of (with_range room ship low high) s) × (high_of (with_range room ship low high) s < room.slots)
ranged room ship low high in' le lt proper s inside = elim (cases_eq s ship) [
  | inl same ↦
      let a = low_new room ship low high in' in
      let b = high_new room ship low high in' in
      subst (λ i. (low_of (with_range room ship low high) i ≤ high_of (with_range room ship low high) i) × (high_of (with_range room ship low high) i < room.slots)) (sym same) (omega (arith, a, b, le), omega (arith, b, lt))
  | inr ne ↦
      let a = low_other room ship low high s ne in
      let b = high_other room ship low high s ne in
      let p = proper s inside in
      (omega (arith, a, b, p.0), omega (arith, b, p.1))
]

pub denying_step : (shape : Shape) (before : Option Lit) (lit : Lit) (room : RoomModel) → IsDenying shape before room → lit_fits shape lit ≡ true → keeps_form before lit ≡ true → IsDenying shape (Some lit) (cut (negation lit) room)
denying_step shape before (lits.AtOrAfter ship slot) room d fits k =
    let p = and_parts (nat_lt ship shape.ships) _ fits in
    let q = and_parts (nat_le 1 slot) _ p.1 in
    let lt : ship < room.ships = omega (arith, ltb-true _ _ p.0, d.ships) in
    let some : 1 ≤ slot = leb-true _ _ q.0 in
    let small : slot < room.slots = omega (arith, ltb-true _ _ q.1, d.slots) in
    let in' : ship < length room.ranges = omega (arith, lt, d.full.each_ship) in
    let whole = d.fresh ship lt (own_first before ship slot k) in
    let high : min (high_of room ship) (slot - 1) ≡ slot - 1 = omega (arith, whole.1, small) in
    record {
      full = full_cut room (lits.Before ship slot) d.full;
      ships = d.ships;
      slots = d.slots;
      proper = ranged room ship (low_of room ship) (min (high_of room ship) (slot - 1)) in' (omega (arith, whole.0)) (omega (arith, high, small)) d.proper;
      fresh = λ s inside later.
          let ne = other_ship ship 0 s later in
          let w = d.fresh s inside (later_ship before (lits.AtOrAfter ship slot) s k later) in
          (low_other room ship _ _ s ne ∙ w.0, high_other room ship _ _ s ne ∙ w.1);
      half = (low_new room ship _ _ in' ∙ whole.0, high_new room ship _ _ in' ∙ high);
      no_pair = d.no_pair;
    }
denying_step shape before (lits.Before ship slot) room d fits k =
    let p = and_parts (nat_lt ship shape.ships) _ fits in
    let q = and_parts (nat_le 1 slot) _ p.1 in
    let lt : ship < room.ships = omega (arith, ltb-true _ _ p.0, d.ships) in
    let small : slot < room.slots = omega (arith, ltb-true _ _ q.1, d.slots) in
    let in' : ship < length room.ranges = omega (arith, lt, d.full.each_ship) in
    let fit : slot ≤ high_of room ship = room_for shape before room ship slot d lt small k in
    let proper = d.proper ship lt in
    record {
      full = full_cut room (lits.AtOrAfter ship slot) d.full;
      ships = d.ships;
      slots = d.slots;
      proper = ranged room ship (max (low_of room ship) slot) (high_of room ship) in' (omega (arith, proper.0, fit)) proper.1 d.proper;
      fresh = λ s inside later.
          let ne = other_ship ship 1 s later in
          let w = d.fresh s inside (later_ship before (lits.Before ship slot) s k later) in
          (low_other room ship _ _ s ne ∙ w.0, high_other room ship _ _ s ne ∙ w.1);
      half = tt;
      no_pair = d.no_pair;
    }
denying_step shape before (lits.First v w) room d fits k =
    let p = and_parts (nat_lt v w) _ fits in
    let vw : v < w = ltb-true _ _ p.0 in
    let lt : w < room.ships = omega (arith, ltb-true _ _ p.1, d.ships) in
    record {
      full = full_cut room (lits.NotFirst v w) d.full;
      ships = d.ships;
      slots = d.slots;
      proper = d.proper;
      fresh = λ s inside later. absurd (no_ship_after v w s later);
      half = tt;
      no_pair = λ a b ba inside. with_order_no_pair room v w _ a b vw lt ba inside (d.no_pair a b ba inside);
    }
denying_step shape before (lits.NotFirst v w) room d fits k =
    let p = and_parts (nat_lt v w) _ fits in
    let vw : v < w = ltb-true _ _ p.0 in
    let lt : w < room.ships = omega (arith, ltb-true _ _ p.1, d.ships) in
    record {
      full = full_cut room (lits.First v w) d.full;
      ships = d.ships;
      slots = d.slots;
      proper = d.proper;
      fresh = λ s inside later. absurd (no_ship_after v w s later);
      half = tt;
      no_pair = λ a b ba inside. with_order_no_pair room v w _ a b vw lt ba inside (d.no_pair a b ba inside);
    }

is_room : (shape : Shape) (before : Option Lit) (room : RoomModel) → ShapeFits shape → IsDenying shape before room → IsRoomOf shape room
is_room shape before room fits d = record { is_room = is; same_ships = d.ships; same_slots = d.slots }
  where
    is : IsRoom room
    is = record {
      few = omega (arith, fits.few_ships, d.ships);
      few_slots = omega (arith, fits.few_slots, d.slots);
      each_ship = d.full.each_ship;
      each_pair = d.full.each_pair;
      ordered = All-from_get_or (λ range. range.0 ≤ range.1) room.ranges (0, 0) (λ i lt. (d.proper i (omega (arith, lt, d.full.each_ship))).0);
      in_slots = All-from_get_or (λ range. range.1 < room.slots) room.ranges (0, 0) (λ i lt. (d.proper i (omega (arith, lt, d.full.each_ship))).1);
      no_pair = d.no_pair;
    }

denying_all : (shape : Shape) (clause : List Lit) (place : ℕ) (before : Option Lit) (room : RoomModel) → ShapeFits shape → IsDenying shape before room → first_bad_from shape place before clause ≡ None → IsRoomOf shape (denied_from room clause)
denying_all shape [] place before room fits d e = is_room shape before room fits d
denying_all shape (lit ∷ more) place before room fits d e =
    let good = no_bad (lit_fits shape lit) (keeps_form before lit) _ _ _ e in
    denying_all shape more (place + 1) (Some lit) (cut (negation lit) room) fits (denying_step shape before lit room d good.0 good.1) good.2

pub whole_range : (shape : Shape) (ship : ℕ) → ship < shape.ships → (low_of (whole_room shape) ship ≡ 0) × (high_of (whole_room shape) ship ≡ shape.slots - 1)
whole_range shape ship lt =
    let e : get_or (replicate shape.ships (0, shape.slots - 1)) ship (0, 0) ≡ (0, shape.slots - 1) = get_or-replicate shape.ships ship (0, shape.slots - 1) (0, 0) lt in
    (ap (λ (p : ℕ × ℕ). p.0) e, ap (λ (p : ℕ × ℕ). p.1) e)

pub whole_denying : (shape : Shape) → ((ship : ℕ) → ship < shape.ships → 1 ≤ shape.slots) → IsDenying shape None (whole_room shape)
whole_denying shape some = record {
  full = whole_full shape;
  ships = refl;
  slots = refl;
  proper = λ ship lt.
      let w = whole_range shape ship lt in
      (omega (arith, w.0), omega (arith, w.1, some ship lt));
  fresh = λ ship lt later. whole_range shape ship lt;
  half = tt;
  no_pair = λ v w le lt. whole_no_pair shape v w le lt;
}

pub shape_fits : (f : Problem) → IsFlat f → ShapeFits (shape_of f)
shape_fits f flat = record {
  some_ship = flat.some_ship;
  few_ships = flat.few_ships;
  some_slot = omega (arith, flat.some_slot, horizon_le f);
  few_slots = omega (arith, flat.few_slots, slots_le f);
}

pub denied_is : (shape : Shape) (clause : List Lit) → ShapeFits shape → IsClause shape clause → IsRoomOf shape (denied shape clause)
denied_is shape clause fits is = denying_all shape clause 0 None (whole_room shape) fits (whole_denying shape (λ ship lt. fits.some_slot)) is

pub denied_fits : (f : Problem) (clause : List Lit) → IsFlat f → IsClause (shape_of f) clause → RoomFits f (denied (shape_of f) clause)
denied_fits f clause flat is = denied_is (shape_of f) clause (shape_fits f flat) is
