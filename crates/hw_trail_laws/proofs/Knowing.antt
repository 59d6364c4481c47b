-- What rooms know: a cut adds what follows from its literal, and a side may be dropped.
use Rattle.std.proofs.Common.{◌≡◌, ℕ, ◌<◌, ◌≤◌, ◌*◌, ◌+◌, ◌-◌, min, max, ◌&&◌, ◌||◌, Bool, true, false, refl, arith, ◌⊎◌, inl, inr, nat_le, nat_lt, ◌∙◌, sym, ap, subst}
use Rattle.std.proofs.lemmas.Bool.{or_left, or_right, false_from_ne_true, leb-true, ltb-true, le-leb, lt-ltb, cases_lt, cases_eq, cases_order, and_parts, and_from, or_cases}
use Rattle.std.proofs.lemmas.List.Elements.{All-get_or}
use Rattle.std.proofs.lemmas.List.{get_or-set_same, get_or-set_other}
use Rattle.std.proofs.lemmas.Nat.{mul-add-lt}
use Rattle.std.specs.Prelude.{slice_set, slice_index_or}
use Rattle.hw_lemmas.proofs.Truths.{clash}
use Rattle.hw_lemmas.proofs.Numbers.{rows_apart}
use Rattle.hw_model.specs.declared.order.Order.{Order}
use Rattle.hw_model.specs.declared.order.Order.TheVariants as orders
use Rattle.hw_model.specs.declared.lit.Lit.{Lit}
use Rattle.hw_model.specs.declared.lit.Lit.TheVariants.{AtOrAfter, Before, First, NotFirst}
use Rattle.hw_model.specs.Lits.{negation}
use Rattle.hw_model.specs.Rooms.{RoomModel, IsRoom, low_of, high_of, order_of}
use Rattle.hw_model.specs.Narrowing.{cut}
use Rattle.hw_model.specs.RefutingComputed.{is_first, is_not_first}
use Rattle.hw_model.specs.Lits.{IsLitOf}
use Rattle.hw_model_laws.proofs.Ranges.{IsFull}
use Rattle.hw_model_laws.proofs.Cuts.{NoOrderSet}
use Rattle.hw_trail_laws.specs.Sides.{same_side, implies}
use Rattle.hw_trail_laws.specs.Replays.{Narrower, World, adding}
use Rattle.hw_trail_laws.specs.Knowing.{knows, always, widened}
use Rattle.hw_trail_laws.proofs.Sides.{Implied, SameSide, implied_parts, implied_from, same_parts, same_from}

pub low_high : (r : RoomModel) → IsRoom r → (v : ℕ) → v < r.ships → low_of r v ≤ high_of r v
low_high r i v lt = All-get_or (λ x. x.0 ≤ x.1) r.ranges v (0, 0) (omega (arith, i.each_ship)) i.ordered

pub high_slots : (r : RoomModel) → IsRoom r → (v : ℕ) → v < r.ships → high_of r v < r.slots
high_slots r i v lt = All-get_or (λ x. x.1 < r.slots) r.ranges v (0, 0) (omega (arith, i.each_ship)) i.in_slots

know_closed : (r : RoomModel) (l m : Lit) → Implied l m → knows r l ≡ true → knows r m ≡ true
know_closed r (AtOrAfter v k) (AtOrAfter w j) p h =
    let a = and_parts (nat_lt v r.ships) (nat_le k (low_of r v)) h in
    let b : k ≤ low_of r v = leb-true _ _ a.1 in
    let c : j ≤ k = p.floors in
    let d : j ≤ low_of r v = omega (arith, b, c) in
    subst (λ (x : ℕ). (nat_lt x r.ships && nat_le j (low_of r x)) ≡ true) p.ones (and_from _ _ a.0 (le-leb _ _ d))
know_closed r (Before v k) (Before w j) p h =
    let a = and_parts (nat_lt v r.ships) (nat_lt (high_of r v) k) h in
    let b : high_of r v < k = ltb-true _ _ a.1 in
    let c : k ≤ j = p.roofs in
    let d : high_of r v < j = omega (arith, b, c) in
    subst (λ (x : ℕ). (nat_lt x r.ships && nat_lt (high_of r x) j) ≡ true) p.ones (and_from _ _ a.0 (lt-ltb _ _ d))
know_closed r (First v k) (First w j) p h =
    let e : v ≡ w = p.ones in let f : k ≡ j = p.others in
    let g : First v k ≡ First w j = cc in subst (λ (x : Lit). knows r x ≡ true) g h
know_closed r (NotFirst v k) (NotFirst w j) p h =
    let e : v ≡ w = p.ones in let f : k ≡ j = p.others in
    let g : NotFirst v k ≡ NotFirst w j = cc in subst (λ (x : Lit). knows r x ≡ true) g h
know_closed r _ _ p h = absurd (omega (arith, p.kinds))

two_orders : (o : Order) → is_first o ≡ true → is_not_first o ≡ true → ⊥
two_orders orders.Unset p q = cc
two_orders orders.First p q = cc
two_orders orders.NotFirst p q = cc

bounds_clash : (r : RoomModel) → IsRoom r → (v k : ℕ) → knows r (AtOrAfter v k) ≡ true → knows r (Before v k) ≡ true → ⊥
bounds_clash r i v k p q =
    let a = and_parts (nat_lt v r.ships) (nat_le k (low_of r v)) p in
    let b = and_parts (nat_lt v r.ships) (nat_lt (high_of r v) k) q in
    let lt : v < r.ships = ltb-true _ _ a.0 in
    let c : k ≤ low_of r v = leb-true _ _ a.1 in
    let d : high_of r v < k = ltb-true _ _ b.1 in
    omega (arith, low_high r i v lt, c, d)

know_consistent : (r : RoomModel) → IsRoom r → (m : Lit) → knows r m ≡ true → knows r (negation m) ≡ true → ⊥
know_consistent r i (AtOrAfter v k) p q = bounds_clash r i v k p q
know_consistent r i (Before v k) p q = bounds_clash r i v k q p
know_consistent r i (First v w) p q = let a = and_parts _ _ p in let b = and_parts _ _ q in two_orders (order_of r v w) a.1 b.1
know_consistent r i (NotFirst v w) p q = let a = and_parts _ _ p in let b = and_parts _ _ q in two_orders (order_of r v w) b.1 a.1

pub know_world : (r : RoomModel) → IsRoom r → World (knows r)
know_world r i = record { closed = λ l m p q. know_closed r l m (implied_parts l m q) p; consistent = know_consistent r i }

pub know_basic : (r : RoomModel) → IsRoom r → Narrower (knows r) (always r.ships r.slots)
know_basic r i (AtOrAfter v k) h =
    let a = and_parts (nat_lt v r.ships) (nat_le k 0) h in
    let b : k ≤ 0 = leb-true _ _ a.1 in
    let d : k ≤ low_of r v = omega (arith, b) in
    and_from _ _ a.0 (le-leb _ _ d)
know_basic r i (Before v k) h =
    let a = and_parts _ _ h in
    let b : r.slots ≤ k = leb-true _ _ a.1 in
    let lt : v < r.ships = ltb-true _ _ a.0 in
    let d : high_of r v < k = omega (arith, b, high_slots r i v lt) in
    and_from _ _ a.0 (lt-ltb _ _ d)
know_basic r i (First v w) h = absurd cc
know_basic r i (NotFirst v w) h = absurd cc

-- CHANGED ROOMS
-- a range is replaced
abbrev ranged : RoomModel → ℕ → ℕ × ℕ → RoomModel
ranged r v x = record r { ranges = slice_set r.ranges v x }

abbrev ordered : RoomModel → ℕ → ℕ → Order → RoomModel
ordered r v w o = record r { orders = slice_set r.orders (v * r.ships + w) o }

range_same : (r : RoomModel) → IsFull r → (v : ℕ) (x : ℕ × ℕ) → v < r.ships → slice_index_or (ranged r v x).ranges v (0, 0) ≡ x
range_same r i v x lt = get_or-set_same r.ranges v x (0, 0) (omega (arith, lt, i.each_ship))

range_other : (r : RoomModel) (v w : ℕ) (x : ℕ × ℕ) → (w ≡ v → ⊥) → slice_index_or (ranged r v x).ranges w (0, 0) ≡ slice_index_or r.ranges w (0, 0)
range_other r v w x ne = get_or-set_other r.ranges v w x (0, 0) ne

one_place : (n v w x y : ℕ) → w < n → y < n → x * n + y ≡ v * n + w → (x ≡ v) × (y ≡ w)
one_place n v w x y lw ly e = elim (cases_order v x) [
  | inl same ↦ (sym same, omega (arith, e, ap (λ k. k * n) same))
  | inr (inl less) ↦ absurd (omega (arith, rows_apart n v w x y lw less, e))
  | inr (inr more) ↦ absurd (omega (arith, rows_apart n x y v w ly more, e))
]

order_same : (r : RoomModel) → IsFull r → (v w : ℕ) (o : Order) → v < w → w < r.ships → order_of (ordered r v w o) v w ≡ o
order_same r i v w o lt lw = get_or-set_same r.orders (v * r.ships + w) o orders.Unset
    (let b : v * r.ships + w < r.ships * r.ships = mul-add-lt v r.ships w r.ships (omega arith) lw in omega (arith, b, i.each_pair))

order_other : (r : RoomModel) (v w x y : ℕ) (o : Order) → w < r.ships → y < r.ships → ((x ≡ v) × (y ≡ w) → ⊥) → order_of (ordered r v w o) x y ≡ order_of r x y
order_other r v w x y o lw ly ne = get_or-set_other r.orders (v * r.ships + w) (x * r.ships + y) o orders.Unset (λ e. ne (one_place r.ships v w x y lw ly e))

-- what stands at a ship after its or another's range was replaced
ranged_at : (r : RoomModel) → IsFull r → (v : ℕ) (x : ℕ × ℕ) → v < r.ships → (w : ℕ)
    → ((w ≡ v) × (slice_index_or (ranged r v x).ranges w (0, 0) ≡ x)) ⊎ ((w ≡ v → ⊥) × (slice_index_or (ranged r v x).ranges w (0, 0) ≡ slice_index_or r.ranges w (0, 0)))
ranged_at r i v x lt w = elim (cases_eq w v) [
  | inl e ↦ inl (e, subst (λ (k : ℕ). slice_index_or (ranged r v x).ranges k (0, 0) ≡ x) (sym e) (range_same r i v x lt))
  | inr ne ↦ inr (ne, range_other r v w x ne)
]

ordered_at : (r : RoomModel) → IsFull r → (v w : ℕ) (o : Order) → v < w → w < r.ships → (x y : ℕ) → y < r.ships
    → (((x ≡ v) × (y ≡ w)) × (order_of (ordered r v w o) x y ≡ o)) ⊎ (((x ≡ v) × (y ≡ w) → ⊥) × (order_of (ordered r v w o) x y ≡ order_of r x y))
ordered_at r i v w o lt lw x y ly = elim (cases_eq x v) [
  | inr ne ↦ inr ((λ p. ne p.0), order_other r v w x y o lw ly (λ p. ne p.0))
  | inl e ↦ elim (cases_eq y w) [
    | inr ne ↦ inr ((λ p. ne p.1), order_other r v w x y o lw ly (λ p. ne p.1))
    | inl f ↦ inl ((e, f), subst (λ (k : ℕ). order_of (ordered r v w o) k y ≡ o) (sym e) (subst (λ (k : ℕ). order_of (ordered r v w o) v k ≡ o) (sym f) (order_same r i v w o lt lw)))
  ]
]

-- the tests of one literal
pub after_true : (ships v k low : ℕ) → (nat_lt v ships && nat_le k low) ≡ true → (v < ships) × (k ≤ low)
after_true ships v k low h = let a = and_parts (nat_lt v ships) (nat_le k low) h in (ltb-true _ _ a.0, leb-true _ _ a.1)

pub after_from : (ships v k low : ℕ) → v < ships → k ≤ low → (nat_lt v ships && nat_le k low) ≡ true
after_from ships v k low a b = and_from _ _ (lt-ltb _ _ a) (le-leb _ _ b)

pub before_true : (ships v k high : ℕ) → (nat_lt v ships && nat_lt high k) ≡ true → (v < ships) × (high < k)
before_true ships v k high h = let a = and_parts (nat_lt v ships) (nat_lt high k) h in (ltb-true _ _ a.0, ltb-true _ _ a.1)

pub before_from : (ships v k high : ℕ) → v < ships → high < k → (nat_lt v ships && nat_lt high k) ≡ true
before_from ships v k high a b = and_from _ _ (lt-ltb _ _ a) (lt-ltb _ _ b)

pub pair_true : (ships v w : ℕ) (b : Bool) → ((nat_lt v w && nat_lt w ships) && b) ≡ true → (v < w) × (w < ships) × (b ≡ true)
pair_true ships v w b h =
    let a = and_parts (nat_lt v w && nat_lt w ships) b h in
    let c = and_parts (nat_lt v w) (nat_lt w ships) a.0 in
    (ltb-true _ _ c.0, ltb-true _ _ c.1, a.1)

pub pair_from : (ships v w : ℕ) (b : Bool) → v < w → w < ships → b ≡ true → ((nat_lt v w && nat_lt w ships) && b) ≡ true
pair_from ships v w b p q e = and_from _ _ (and_from _ _ (lt-ltb _ _ p) (lt-ltb _ _ q)) e

-- A CUT
pub cut_sees : (r : RoomModel) → IsFull r → (e : Lit) → IsLitOf r.ships e → knows (cut e r) e ≡ true
cut_sees r i (AtOrAfter v k) f = after_from r.ships v k _ f.0 (omega (arith, ap (λ (x : ℕ × ℕ). x.0) (range_same r i v (max (low_of r v) k, high_of r v) f.0)))
cut_sees r i (Before v k) f = before_from r.ships v k _ f.0 (omega (arith, f.1, ap (λ (x : ℕ × ℕ). x.1) (range_same r i v (low_of r v, min (high_of r v) (k - 1)) f.0)))
cut_sees r i (First v w) f = pair_from r.ships v w _ f.0 f.1 (ap is_first (order_same r i v w orders.First f.0 f.1))
cut_sees r i (NotFirst v w) f = pair_from r.ships v w _ f.0 f.1 (ap is_not_first (order_same r i v w orders.NotFirst f.0 f.1))

cut_kept : (r : RoomModel) → IsFull r → (e : Lit) → IsLitOf r.ships e → NoOrderSet r e → (m : Lit) → knows r m ≡ true → knows (cut e r) m ≡ true
cut_kept r i (AtOrAfter v k) f free (AtOrAfter w j) h =
    let a = after_true r.ships w j (low_of r w) h in
    elim (ranged_at r i v (max (low_of r v) k, high_of r v) f.0 w) [
      | inl x ↦ after_from r.ships w j _ a.0 (omega (arith, a.1, ap (λ u. low_of r u) x.0, ap (λ (u : ℕ × ℕ). u.0) x.1))
      | inr x ↦ after_from r.ships w j _ a.0 (omega (arith, a.1, ap (λ (u : ℕ × ℕ). u.0) x.1))
    ]
cut_kept r i (AtOrAfter v k) f free (Before w j) h =
    let a = before_true r.ships w j (high_of r w) h in
    elim (ranged_at r i v (max (low_of r v) k, high_of r v) f.0 w) [
      | inl x ↦ before_from r.ships w j _ a.0 (omega (arith, a.1, ap (λ u. high_of r u) x.0, ap (λ (u : ℕ × ℕ). u.1) x.1))
      | inr x ↦ before_from r.ships w j _ a.0 (omega (arith, a.1, ap (λ (u : ℕ × ℕ). u.1) x.1))
    ]
cut_kept r i (AtOrAfter v k) f free (First x y) h = h
cut_kept r i (AtOrAfter v k) f free (NotFirst x y) h = h
cut_kept r i (Before v k) f free (AtOrAfter w j) h =
    let a = after_true r.ships w j (low_of r w) h in
    elim (ranged_at r i v (low_of r v, min (high_of r v) (k - 1)) f.0 w) [
      | inl x ↦ after_from r.ships w j _ a.0 (omega (arith, a.1, ap (λ u. low_of r u) x.0, ap (λ (u : ℕ × ℕ). u.0) x.1))
      | inr x ↦ after_from r.ships w j _ a.0 (omega (arith, a.1, ap (λ (u : ℕ × ℕ). u.0) x.1))
    ]
cut_kept r i (Before v k) f free (Before w j) h =
    let a = before_true r.ships w j (high_of r w) h in
    elim (ranged_at r i v (low_of r v, min (high_of r v) (k - 1)) f.0 w) [
      | inl x ↦ before_from r.ships w j _ a.0 (omega (arith, a.1, ap (λ u. high_of r u) x.0, ap (λ (u : ℕ × ℕ). u.1) x.1))
      | inr x ↦ before_from r.ships w j _ a.0 (omega (arith, a.1, ap (λ (u : ℕ × ℕ). u.1) x.1))
    ]
cut_kept r i (Before v k) f free (First x y) h = h
cut_kept r i (Before v k) f free (NotFirst x y) h = h
cut_kept r i (First v w) f free (First x y) h =
    let a = pair_true r.ships x y _ h in
    elim (ordered_at r i v w orders.First f.0 f.1 x y a.1) [
      | inl z ↦ pair_from r.ships x y _ a.0 a.1 (ap is_first z.1)
      | inr z ↦ pair_from r.ships x y _ a.0 a.1 (ap is_first z.1 ∙ a.2)
    ]
cut_kept r i (First v w) f free (NotFirst x y) h =
    let a = pair_true r.ships x y _ h in
    elim (ordered_at r i v w orders.First f.0 f.1 x y a.1) [
      | inl z ↦ absurd (clash _ a.2 (ap is_not_first (ap (λ (k : ℕ). order_of r k y) z.0.0 ∙ ap (λ (k : ℕ). order_of r v k) z.0.1 ∙ free)))
      | inr z ↦ pair_from r.ships x y _ a.0 a.1 (ap is_not_first z.1 ∙ a.2)
    ]
cut_kept r i (First v w) f free (AtOrAfter x j) h = h
cut_kept r i (First v w) f free (Before x j) h = h
cut_kept r i (NotFirst v w) f free (NotFirst x y) h =
    let a = pair_true r.ships x y _ h in
    elim (ordered_at r i v w orders.NotFirst f.0 f.1 x y a.1) [
      | inl z ↦ pair_from r.ships x y _ a.0 a.1 (ap is_not_first z.1)
      | inr z ↦ pair_from r.ships x y _ a.0 a.1 (ap is_not_first z.1 ∙ a.2)
    ]
cut_kept r i (NotFirst v w) f free (First x y) h =
    let a = pair_true r.ships x y _ h in
    elim (ordered_at r i v w orders.NotFirst f.0 f.1 x y a.1) [
      | inl z ↦ absurd (clash _ a.2 (ap is_first (ap (λ (k : ℕ). order_of r k y) z.0.0 ∙ ap (λ (k : ℕ). order_of r v k) z.0.1 ∙ free)))
      | inr z ↦ pair_from r.ships x y _ a.0 a.1 (ap is_first z.1 ∙ a.2)
    ]
cut_kept r i (NotFirst v w) f free (AtOrAfter x j) h = h
cut_kept r i (NotFirst v w) f free (Before x j) h = h

pub cut_in : (r : RoomModel) → IsFull r → (e : Lit) → IsLitOf r.ships e → NoOrderSet r e → (m : Lit) → adding e (knows r) m ≡ true → knows (cut e r) m ≡ true
cut_in r i e f free m h = elim (or_cases _ _ h) [
  | inl p ↦ know_closed (cut e r) e m (implied_parts e m p) (cut_sees r i e f)
  | inr q ↦ cut_kept r i e f free m q
]

made : (e m : Lit) → Implied e m → (x : Bool) → (implies e m || x) ≡ true
made e m p x = or_left _ _ (implied_from e m p)

stays : (e m : Lit) (x : Bool) → x ≡ true → (implies e m || x) ≡ true
stays e m x h = or_right _ _ h

pub cut_out : (r : RoomModel) → IsFull r → (e : Lit) → IsLitOf r.ships e → (m : Lit) → knows (cut e r) m ≡ true → adding e (knows r) m ≡ true
cut_out r i (AtOrAfter v k) f (AtOrAfter w j) h =
    let a = after_true r.ships w j _ h in
    elim (ranged_at r i v (max (low_of r v) k, high_of r v) f.0 w) [
      | inl x ↦ elim (cases_lt k j) [
        | inl more ↦ stays (AtOrAfter v k) (AtOrAfter w j) _ (after_from r.ships w j _ a.0 (omega (arith, a.1, more, ap (λ u. low_of r u) x.0, ap (λ (u : ℕ × ℕ). u.0) x.1)))
        | inr less ↦ made (AtOrAfter v k) (AtOrAfter w j) (record { kinds = refl; ones = sym x.0; others = refl; floors = less; roofs = omega arith }) _
      ]
      | inr x ↦ stays (AtOrAfter v k) (AtOrAfter w j) _ (after_from r.ships w j _ a.0 (omega (arith, a.1, ap (λ (u : ℕ × ℕ). u.0) x.1)))
    ]
cut_out r i (AtOrAfter v k) f (Before w j) h =
    let a = before_true r.ships w j _ h in
    elim (ranged_at r i v (max (low_of r v) k, high_of r v) f.0 w) [
      | inl x ↦ stays (AtOrAfter v k) (Before w j) _ (before_from r.ships w j _ a.0 (omega (arith, a.1, ap (λ u. high_of r u) x.0, ap (λ (u : ℕ × ℕ). u.1) x.1)))
      | inr x ↦ stays (AtOrAfter v k) (Before w j) _ (before_from r.ships w j _ a.0 (omega (arith, a.1, ap (λ (u : ℕ × ℕ). u.1) x.1)))
    ]
cut_out r i (AtOrAfter v k) f (First x y) h = stays (AtOrAfter v k) (First x y) _ h
cut_out r i (AtOrAfter v k) f (NotFirst x y) h = stays (AtOrAfter v k) (NotFirst x y) _ h
cut_out r i (Before v k) f (AtOrAfter w j) h =
    let a = after_true r.ships w j _ h in
    elim (ranged_at r i v (low_of r v, min (high_of r v) (k - 1)) f.0 w) [
      | inl x ↦ stays (Before v k) (AtOrAfter w j) _ (after_from r.ships w j _ a.0 (omega (arith, a.1, ap (λ u. low_of r u) x.0, ap (λ (u : ℕ × ℕ). u.0) x.1)))
      | inr x ↦ stays (Before v k) (AtOrAfter w j) _ (after_from r.ships w j _ a.0 (omega (arith, a.1, ap (λ (u : ℕ × ℕ). u.0) x.1)))
    ]
cut_out r i (Before v k) f (Before w j) h =
    let a = before_true r.ships w j _ h in
    elim (ranged_at r i v (low_of r v, min (high_of r v) (k - 1)) f.0 w) [
      | inl x ↦ elim (cases_lt j k) [
        | inl less ↦ stays (Before v k) (Before w j) _ (before_from r.ships w j _ a.0 (omega (arith, a.1, less, ap (λ u. high_of r u) x.0, ap (λ (u : ℕ × ℕ). u.1) x.1)))
        | inr more ↦ made (Before v k) (Before w j) (record { kinds = refl; ones = sym x.0; others = refl; floors = omega arith; roofs = more }) _
      ]
      | inr x ↦ stays (Before v k) (Before w j) _ (before_from r.ships w j _ a.0 (omega (arith, a.1, ap (λ (u : ℕ × ℕ). u.1) x.1)))
    ]
cut_out r i (Before v k) f (First x y) h = stays (Before v k) (First x y) _ h
cut_out r i (Before v k) f (NotFirst x y) h = stays (Before v k) (NotFirst x y) _ h
cut_out r i (First v w) f (First x y) h =
    let a = pair_true r.ships x y _ h in
    elim (ordered_at r i v w orders.First f.0 f.1 x y a.1) [
      | inl z ↦ made (First v w) (First x y) (record { kinds = refl; ones = sym z.0.0; others = sym z.0.1; floors = omega arith; roofs = omega arith }) _
      | inr z ↦ stays (First v w) (First x y) _ (pair_from r.ships x y _ a.0 a.1 (sym (ap is_first z.1) ∙ a.2))
    ]
cut_out r i (First v w) f (NotFirst x y) h =
    let a = pair_true r.ships x y _ h in
    elim (ordered_at r i v w orders.First f.0 f.1 x y a.1) [
      | inl z ↦ absurd (clash _ a.2 (ap is_not_first z.1))
      | inr z ↦ stays (First v w) (NotFirst x y) _ (pair_from r.ships x y _ a.0 a.1 (sym (ap is_not_first z.1) ∙ a.2))
    ]
cut_out r i (First v w) f (AtOrAfter x j) h = stays (First v w) (AtOrAfter x j) _ h
cut_out r i (First v w) f (Before x j) h = stays (First v w) (Before x j) _ h
cut_out r i (NotFirst v w) f (NotFirst x y) h =
    let a = pair_true r.ships x y _ h in
    elim (ordered_at r i v w orders.NotFirst f.0 f.1 x y a.1) [
      | inl z ↦ made (NotFirst v w) (NotFirst x y) (record { kinds = refl; ones = sym z.0.0; others = sym z.0.1; floors = omega arith; roofs = omega arith }) _
      | inr z ↦ stays (NotFirst v w) (NotFirst x y) _ (pair_from r.ships x y _ a.0 a.1 (sym (ap is_not_first z.1) ∙ a.2))
    ]
cut_out r i (NotFirst v w) f (First x y) h =
    let a = pair_true r.ships x y _ h in
    elim (ordered_at r i v w orders.NotFirst f.0 f.1 x y a.1) [
      | inl z ↦ absurd (clash _ a.2 (ap is_first z.1))
      | inr z ↦ stays (NotFirst v w) (First x y) _ (pair_from r.ships x y _ a.0 a.1 (sym (ap is_first z.1) ∙ a.2))
    ]
cut_out r i (NotFirst v w) f (AtOrAfter x j) h = stays (NotFirst v w) (AtOrAfter x j) _ h
cut_out r i (NotFirst v w) f (Before x j) h = stays (NotFirst v w) (Before x j) _ h

-- A SIDE TAKEN BACK
apart : (e m : Lit) → (SameSide e m → ⊥) → same_side e m ≡ false
apart e m ne = false_from_ne_true _ (λ y. ne (same_parts e m y))

together : (e m : Lit) → SameSide e m → same_side e m ≡ false → ⊥
together e m s n = clash _ (same_from e m s) n

-- what is known of other sides stays; the side's own negation isn't known
pub widen_in : (r : RoomModel) → IsFull r → (e : Lit) → IsLitOf r.ships e → knows r (negation e) ≡ false → (m : Lit) → knows r m ≡ true → same_side e m ≡ false → knows (widened e r) m ≡ true
widen_in r i (AtOrAfter v k) f free (AtOrAfter w j) h n =
    let a = after_true r.ships w j (low_of r w) h in
    elim (ranged_at r i v (0, high_of r v) f.0 w) [
      | inl x ↦ absurd (together (AtOrAfter v k) (AtOrAfter w j) (record { kinds = refl; ones = sym x.0; others = refl }) n)
      | inr x ↦ after_from r.ships w j _ a.0 (omega (arith, a.1, ap (λ (u : ℕ × ℕ). u.0) x.1))
    ]
widen_in r i (AtOrAfter v k) f free (Before w j) h n =
    let a = before_true r.ships w j (high_of r w) h in
    elim (ranged_at r i v (0, high_of r v) f.0 w) [
      | inl x ↦ before_from r.ships w j _ a.0 (omega (arith, a.1, ap (λ u. high_of r u) x.0, ap (λ (u : ℕ × ℕ). u.1) x.1))
      | inr x ↦ before_from r.ships w j _ a.0 (omega (arith, a.1, ap (λ (u : ℕ × ℕ). u.1) x.1))
    ]
widen_in r i (AtOrAfter v k) f free (First x y) h n = h
widen_in r i (AtOrAfter v k) f free (NotFirst x y) h n = h
widen_in r i (Before v k) f free (AtOrAfter w j) h n =
    let a = after_true r.ships w j (low_of r w) h in
    elim (ranged_at r i v (low_of r v, r.slots - 1) f.0 w) [
      | inl x ↦ after_from r.ships w j _ a.0 (omega (arith, a.1, ap (λ u. low_of r u) x.0, ap (λ (u : ℕ × ℕ). u.0) x.1))
      | inr x ↦ after_from r.ships w j _ a.0 (omega (arith, a.1, ap (λ (u : ℕ × ℕ). u.0) x.1))
    ]
widen_in r i (Before v k) f free (Before w j) h n =
    let a = before_true r.ships w j (high_of r w) h in
    elim (ranged_at r i v (low_of r v, r.slots - 1) f.0 w) [
      | inl x ↦ absurd (together (Before v k) (Before w j) (record { kinds = refl; ones = sym x.0; others = refl }) n)
      | inr x ↦ before_from r.ships w j _ a.0 (omega (arith, a.1, ap (λ (u : ℕ × ℕ). u.1) x.1))
    ]
widen_in r i (Before v k) f free (First x y) h n = h
widen_in r i (Before v k) f free (NotFirst x y) h n = h
widen_in r i (First v w) f free (First x y) h n =
    let a = pair_true r.ships x y _ h in
    elim (ordered_at r i v w orders.Unset f.0 f.1 x y a.1) [
      | inl z ↦ absurd (together (First v w) (First x y) (record { kinds = refl; ones = sym z.0.0; others = sym z.0.1 }) n)
      | inr z ↦ pair_from r.ships x y _ a.0 a.1 (ap is_first z.1 ∙ a.2)
    ]
widen_in r i (First v w) f free (NotFirst x y) h n =
    let a = pair_true r.ships x y _ h in
    elim (ordered_at r i v w orders.Unset f.0 f.1 x y a.1) [
      | inl z ↦ absurd (clash _ (subst (λ (k : ℕ). knows r (NotFirst k w) ≡ true) z.0.0 (subst (λ (k : ℕ). knows r (NotFirst x k) ≡ true) z.0.1 h)) free)
      | inr z ↦ pair_from r.ships x y _ a.0 a.1 (ap is_not_first z.1 ∙ a.2)
    ]
widen_in r i (First v w) f free (AtOrAfter x j) h n = h
widen_in r i (First v w) f free (Before x j) h n = h
widen_in r i (NotFirst v w) f free (NotFirst x y) h n =
    let a = pair_true r.ships x y _ h in
    elim (ordered_at r i v w orders.Unset f.0 f.1 x y a.1) [
      | inl z ↦ absurd (together (NotFirst v w) (NotFirst x y) (record { kinds = refl; ones = sym z.0.0; others = sym z.0.1 }) n)
      | inr z ↦ pair_from r.ships x y _ a.0 a.1 (ap is_not_first z.1 ∙ a.2)
    ]
widen_in r i (NotFirst v w) f free (First x y) h n =
    let a = pair_true r.ships x y _ h in
    elim (ordered_at r i v w orders.Unset f.0 f.1 x y a.1) [
      | inl z ↦ absurd (clash _ (subst (λ (k : ℕ). knows r (First k w) ≡ true) z.0.0 (subst (λ (k : ℕ). knows r (First x k) ≡ true) z.0.1 h)) free)
      | inr z ↦ pair_from r.ships x y _ a.0 a.1 (ap is_first z.1 ∙ a.2)
    ]
widen_in r i (NotFirst v w) f free (AtOrAfter x j) h n = h
widen_in r i (NotFirst v w) f free (Before x j) h n = h

pub widen_out : (r : RoomModel) → IsFull r → (e : Lit) → IsLitOf r.ships e → (m : Lit) → knows (widened e r) m ≡ true
    → (always r.ships r.slots m ≡ true) ⊎ ((knows r m ≡ true) × (same_side e m ≡ false))
widen_out r i (AtOrAfter v k) f (AtOrAfter w j) h =
    let a = after_true r.ships w j _ h in
    elim (ranged_at r i v (0, high_of r v) f.0 w) [
      | inl x ↦ inl (after_from r.ships w j 0 a.0 (omega (arith, a.1, ap (λ (u : ℕ × ℕ). u.0) x.1)))
      | inr x ↦ inr (after_from r.ships w j _ a.0 (omega (arith, a.1, ap (λ (u : ℕ × ℕ). u.0) x.1)), apart (AtOrAfter v k) (AtOrAfter w j) (λ s. x.0 (sym s.ones)))
    ]
widen_out r i (AtOrAfter v k) f (Before w j) h =
    let a = before_true r.ships w j _ h in
    elim (ranged_at r i v (0, high_of r v) f.0 w) [
      | inl x ↦ inr (before_from r.ships w j _ a.0 (omega (arith, a.1, ap (λ u. high_of r u) x.0, ap (λ (u : ℕ × ℕ). u.1) x.1)), apart (AtOrAfter v k) (Before w j) (λ s. omega (arith, s.kinds)))
      | inr x ↦ inr (before_from r.ships w j _ a.0 (omega (arith, a.1, ap (λ (u : ℕ × ℕ). u.1) x.1)), apart (AtOrAfter v k) (Before w j) (λ s. omega (arith, s.kinds)))
    ]
widen_out r i (AtOrAfter v k) f (First x y) h = inr (h, apart (AtOrAfter v k) (First x y) (λ s. omega (arith, s.kinds)))
widen_out r i (AtOrAfter v k) f (NotFirst x y) h = inr (h, apart (AtOrAfter v k) (NotFirst x y) (λ s. omega (arith, s.kinds)))
widen_out r i (Before v k) f (AtOrAfter w j) h =
    let a = after_true r.ships w j _ h in
    elim (ranged_at r i v (low_of r v, r.slots - 1) f.0 w) [
      | inl x ↦ inr (after_from r.ships w j _ a.0 (omega (arith, a.1, ap (λ u. low_of r u) x.0, ap (λ (u : ℕ × ℕ). u.0) x.1)), apart (Before v k) (AtOrAfter w j) (λ s. omega (arith, s.kinds)))
      | inr x ↦ inr (after_from r.ships w j _ a.0 (omega (arith, a.1, ap (λ (u : ℕ × ℕ). u.0) x.1)), apart (Before v k) (AtOrAfter w j) (λ s. omega (arith, s.kinds)))
    ]
widen_out r i (Before v k) f (Before w j) h =
    let a = before_true r.ships w j _ h in
    elim (ranged_at r i v (low_of r v, r.slots - 1) f.0 w) [
      | inl x ↦ inl (and_from _ _ (lt-ltb _ _ a.0) (le-leb r.slots j (omega (arith, a.1, ap (λ (u : ℕ × ℕ). u.1) x.1))))
      | inr x ↦ inr (before_from r.ships w j _ a.0 (omega (arith, a.1, ap (λ (u : ℕ × ℕ). u.1) x.1)), apart (Before v k) (Before w j) (λ s. x.0 (sym s.ones)))
    ]
widen_out r i (Before v k) f (First x y) h = inr (h, apart (Before v k) (First x y) (λ s. omega (arith, s.kinds)))
widen_out r i (Before v k) f (NotFirst x y) h = inr (h, apart (Before v k) (NotFirst x y) (λ s. omega (arith, s.kinds)))
widen_out r i (First v w) f (First x y) h =
    let a = pair_true r.ships x y _ h in
    elim (ordered_at r i v w orders.Unset f.0 f.1 x y a.1) [
      | inl z ↦ absurd (clash _ a.2 (ap is_first z.1))
      | inr z ↦ inr (pair_from r.ships x y _ a.0 a.1 (sym (ap is_first z.1) ∙ a.2), apart (First v w) (First x y) (λ s. z.0 (sym s.ones, sym s.others)))
    ]
widen_out r i (First v w) f (NotFirst x y) h =
    let a = pair_true r.ships x y _ h in
    elim (ordered_at r i v w orders.Unset f.0 f.1 x y a.1) [
      | inl z ↦ absurd (clash _ a.2 (ap is_not_first z.1))
      | inr z ↦ inr (pair_from r.ships x y _ a.0 a.1 (sym (ap is_not_first z.1) ∙ a.2), apart (First v w) (NotFirst x y) (λ s. omega (arith, s.kinds)))
    ]
widen_out r i (First v w) f (AtOrAfter x j) h = inr (h, apart (First v w) (AtOrAfter x j) (λ s. omega (arith, s.kinds)))
widen_out r i (First v w) f (Before x j) h = inr (h, apart (First v w) (Before x j) (λ s. omega (arith, s.kinds)))
widen_out r i (NotFirst v w) f (NotFirst x y) h =
    let a = pair_true r.ships x y _ h in
    elim (ordered_at r i v w orders.Unset f.0 f.1 x y a.1) [
      | inl z ↦ absurd (clash _ a.2 (ap is_not_first z.1))
      | inr z ↦ inr (pair_from r.ships x y _ a.0 a.1 (sym (ap is_not_first z.1) ∙ a.2), apart (NotFirst v w) (NotFirst x y) (λ s. z.0 (sym s.ones, sym s.others)))
    ]
widen_out r i (NotFirst v w) f (First x y) h =
    let a = pair_true r.ships x y _ h in
    elim (ordered_at r i v w orders.Unset f.0 f.1 x y a.1) [
      | inl z ↦ absurd (clash _ a.2 (ap is_first z.1))
      | inr z ↦ inr (pair_from r.ships x y _ a.0 a.1 (sym (ap is_first z.1) ∙ a.2), apart (NotFirst v w) (First x y) (λ s. omega (arith, s.kinds)))
    ]
widen_out r i (NotFirst v w) f (AtOrAfter x j) h = inr (h, apart (NotFirst v w) (AtOrAfter x j) (λ s. omega (arith, s.kinds)))
widen_out r i (NotFirst v w) f (Before x j) h = inr (h, apart (NotFirst v w) (Before x j) (λ s. omega (arith, s.kinds)))
