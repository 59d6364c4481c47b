-- A literal is denied, and the greatest literal that a room knows of a side.
use Rattle.std.proofs.Common.{◌≡◌, ℕ, ◌<◌, ◌≤◌, ◌+◌, true, false, refl, arith, inl, inr, nat_le, nat_lt, sym, ap, subst}
use Rattle.std.proofs.lemmas.Bool.{or_cases, or_right, and_from, le-leb, lt-ltb, cases_Bool, and_parts, leb-true}
use Rattle.hw_model.specs.declared.order.Order.TheVariants as orders
use Rattle.hw_model.specs.declared.lit.Lit.{Lit}
use Rattle.hw_model.specs.declared.lit.Lit.TheVariants.{AtOrAfter, Before, First, NotFirst}
use Rattle.hw_model.specs.Lits.{negation}
use Rattle.hw_model.specs.Rooms.{RoomModel, IsRoom, low_of, high_of, order_of}
use Rattle.hw_model.specs.Narrowing.{cut}
use Rattle.hw_model.specs.RefutingComputed.{is_first, is_not_first}
use Rattle.hw_model.specs.Lits.{IsLitOf}
use Rattle.hw_model_laws.proofs.Cuts.{full_room, no_order_set}
use Rattle.hw_model_laws.proofs.Tested.{first_is, not_first_is}
use Rattle.hw_trail_laws.specs.Sides.{implies, one, floor, roof}
use Rattle.hw_trail_laws.specs.Knowing.{knows, always}
use Rattle.hw_trail_laws.specs.Passes.{DeniesOne, MostOf, NothingOf}
use Rattle.hw_trail_laws.proofs.Sides.{SameSide, implied_from, same_parts, same_from, neg_neg}
use Rattle.hw_trail_laws.proofs.Truth.{unknown_free}
use Rattle.hw_trail_laws.proofs.Knowing.{cut_in, cut_out, cut_sees, after_true, after_from, before_true, before_from, pair_true, pair_from}

pub fits_neg : (r : RoomModel) (l : Lit) → IsLitOf r.ships l → IsLitOf r.ships (negation l)
fits_neg r (AtOrAfter v k) f = f
fits_neg r (Before v k) f = f
fits_neg r (First v w) f = f
fits_neg r (NotFirst v w) f = f

pub denies_cut : (r : RoomModel) → IsRoom r → (l : Lit) → IsLitOf r.ships l → knows r (negation l) ≡ false → knows r l ≡ false → DeniesOne (knows r) (knows (cut (negation l) r)) l
denies_cut r i l f out free =
    let f' : IsLitOf r.ships (negation l) = fits_neg r l f in
    let g : knows r (negation (negation l)) ≡ false = subst (λ (x : Lit). knows r x ≡ false) (sym (neg_neg l)) free in
    let seen : knows (cut (negation l) r) (negation l) ≡ true = cut_sees r (full_room r i) (negation l) f' in
    let none = no_order_set r (negation l) (unknown_free r (negation l) f' out g) in
    record {
      keeps = λ m y. cut_in r (full_room r i) (negation l) f' none m (or_right _ _ y);
      known = inl seen;
      sources = λ m y. elim (or_cases _ _ (cut_out r (full_room r i) (negation l) f' m y)) [ inl p ↦ inr (p, seen) | inr q ↦ inl q ];
    }

-- THE GREATEST LITERAL OF A SIDE
low_end : (r : RoomModel) (v k : ℕ) (m : Lit) → SameSide (AtOrAfter v k) m → knows r m ≡ true → (s : ℕ) → s ≡ low_of r v → (one m ≡ v) × (one m < r.ships) × (floor m ≤ s) × (roof m ≡ 0)
low_end r v k (AtOrAfter w j) p h s e = let a = after_true r.ships w j _ h in (sym p.ones, a.0, omega (arith, a.1, e, ap (λ u. low_of r u) p.ones), refl)
low_end r v k (Before w j) p h s e = absurd (omega (arith, p.kinds))
low_end r v k (First w j) p h s e = absurd (omega (arith, p.kinds))
low_end r v k (NotFirst w j) p h s e = absurd (omega (arith, p.kinds))

pub nothing_low : (r : RoomModel) (v k s : ℕ) → s ≡ low_of r v → s ≡ 0 → NothingOf (always r.ships r.slots) (knows r) (AtOrAfter v k)
nothing_low r v k s e z (AtOrAfter w j) h side =
    let x = low_end r v k (AtOrAfter w j) (same_parts _ _ side) h s e in after_from r.ships w j 0 x.1 (omega (arith, x.2, z))
nothing_low r v k s e z (Before w j) h side = absurd (let x = same_parts (AtOrAfter v k) (Before w j) side in omega (arith, x.kinds))
nothing_low r v k s e z (First w j) h side = absurd (let x = same_parts (AtOrAfter v k) (First w j) side in omega (arith, x.kinds))
nothing_low r v k s e z (NotFirst w j) h side = absurd (let x = same_parts (AtOrAfter v k) (NotFirst w j) side in omega (arith, x.kinds))

trivial_low : (slots ships v s : ℕ) → (s ≡ 0 → ⊥) → always ships slots (AtOrAfter v s) ≡ false
trivial_low slots ships v s ne = elim (cases_Bool (always ships slots (AtOrAfter v s))) [
  | inl y ↦ absurd (ne (let x = after_true ships v s 0 y in omega (arith, x.1)))
  | inr n ↦ n
]

pub most_low : (r : RoomModel) (v k s : ℕ) → v < r.ships → s ≡ low_of r v → (s ≡ 0 → ⊥) → MostOf (always r.ships r.slots) (knows r) (AtOrAfter v k) (AtOrAfter v s)
most_low r v k s lt e ne = record {
  known = after_from r.ships v s _ lt (omega (arith, e));
  side = same_from (AtOrAfter v k) (AtOrAfter v s) (record { kinds = refl; ones = refl; others = refl });
  proper = trivial_low r.slots r.ships v s ne;
  greatest = λ m h side.
      let p = same_parts (AtOrAfter v k) m side in
      let x = low_end r v k m p h s e in
      implied_from (AtOrAfter v s) m (record { kinds = p.kinds; ones = sym x.0; others = p.others; floors = x.2; roofs = omega arith });
}

high_end : (r : RoomModel) (v k : ℕ) (m : Lit) → SameSide (Before v k) m → knows r m ≡ true → (s : ℕ) → s ≡ high_of r v → (one m ≡ v) × (one m < r.ships) × (s < roof m) × (floor m ≡ 0)
high_end r v k (Before w j) p h s e = let a = before_true r.ships w j _ h in (sym p.ones, a.0, omega (arith, a.1, e, ap (λ u. high_of r u) p.ones), refl)
high_end r v k (AtOrAfter w j) p h s e = absurd (omega (arith, p.kinds))
high_end r v k (First w j) p h s e = absurd (omega (arith, p.kinds))
high_end r v k (NotFirst w j) p h s e = absurd (omega (arith, p.kinds))

pub nothing_high : (r : RoomModel) (v k s : ℕ) → s ≡ high_of r v → s + 1 ≡ r.slots → NothingOf (always r.ships r.slots) (knows r) (Before v k)
nothing_high r v k s e z (Before w j) h side =
    let x = high_end r v k (Before w j) (same_parts _ _ side) h s e in and_from _ _ (lt-ltb _ _ x.1) (le-leb r.slots j (omega (arith, x.2, z)))
nothing_high r v k s e z (AtOrAfter w j) h side = absurd (let x = same_parts (Before v k) (AtOrAfter w j) side in omega (arith, x.kinds))
nothing_high r v k s e z (First w j) h side = absurd (let x = same_parts (Before v k) (First w j) side in omega (arith, x.kinds))
nothing_high r v k s e z (NotFirst w j) h side = absurd (let x = same_parts (Before v k) (NotFirst w j) side in omega (arith, x.kinds))

trivial_high : (slots ships v s : ℕ) → s + 1 < slots → always ships slots (Before v (s + 1)) ≡ false
trivial_high slots ships v s lt = elim (cases_Bool (always ships slots (Before v (s + 1)))) [
  | inl y ↦ let a = and_parts (nat_lt v ships) (nat_le slots (s + 1)) y in let b : slots ≤ s + 1 = leb-true _ _ a.1 in absurd (omega (arith, lt, b))
  | inr n ↦ n
]

pub most_high : (r : RoomModel) (v k s : ℕ) → v < r.ships → s ≡ high_of r v → s + 1 < r.slots → MostOf (always r.ships r.slots) (knows r) (Before v k) (Before v (s + 1))
most_high r v k s lt e ne = record {
  known = before_from r.ships v (s + 1) _ lt (omega (arith, e));
  side = same_from (Before v k) (Before v (s + 1)) (record { kinds = refl; ones = refl; others = refl });
  proper = trivial_high r.slots r.ships v s ne;
  greatest = λ m h side.
      let p = same_parts (Before v k) m side in
      let x = high_end r v k m p h s e in
      implied_from (Before v (s + 1)) m (record { kinds = p.kinds; ones = sym x.0; others = p.others; floors = omega (arith, x.3); roofs = omega (arith, x.2) });
}

-- orders
implied_pair : (e m : Lit) → SameSide e m → floor m ≡ 0 → roof e ≡ 0 → implies e m ≡ true
implied_pair e m p f g = implied_from e m (record { kinds = p.kinds; ones = p.ones; others = p.others; floors = omega (arith, f); roofs = omega (arith, g) })

first_floor : (v w : ℕ) (m : Lit) → SameSide (First v w) m → (m ≡ First v w) × (floor m ≡ 0)
first_floor v w (First x y) p = (let a : v ≡ x = p.ones in let b : w ≡ y = p.others in cc, refl)
first_floor v w (AtOrAfter x y) p = absurd (omega (arith, p.kinds))
first_floor v w (Before x y) p = absurd (omega (arith, p.kinds))
first_floor v w (NotFirst x y) p = absurd (omega (arith, p.kinds))

not_first_floor : (v w : ℕ) (m : Lit) → SameSide (NotFirst v w) m → (m ≡ NotFirst v w) × (floor m ≡ 0)
not_first_floor v w (NotFirst x y) p = (let a : v ≡ x = p.ones in let b : w ≡ y = p.others in cc, refl)
not_first_floor v w (AtOrAfter x y) p = absurd (omega (arith, p.kinds))
not_first_floor v w (Before x y) p = absurd (omega (arith, p.kinds))
not_first_floor v w (First x y) p = absurd (omega (arith, p.kinds))

pub nothing_first : (r : RoomModel) (v w : ℕ) → (order_of r v w ≡ orders.First → ⊥) → NothingOf (always r.ships r.slots) (knows r) (First v w)
nothing_first r v w ne m h side =
    let f = first_floor v w m (same_parts _ _ side) in
    let g : knows r (First v w) ≡ true = subst (λ (x : Lit). knows r x ≡ true) f.0 h in
    let a = pair_true r.ships v w _ g in
    absurd (ne (first_is _ a.2))

pub nothing_not_first : (r : RoomModel) (v w : ℕ) → (order_of r v w ≡ orders.NotFirst → ⊥) → NothingOf (always r.ships r.slots) (knows r) (NotFirst v w)
nothing_not_first r v w ne m h side =
    let f = not_first_floor v w m (same_parts _ _ side) in
    let g : knows r (NotFirst v w) ≡ true = subst (λ (x : Lit). knows r x ≡ true) f.0 h in
    let a = pair_true r.ships v w _ g in
    absurd (ne (not_first_is _ a.2))

pub most_first : (r : RoomModel) (v w : ℕ) → v < w → w < r.ships → order_of r v w ≡ orders.First → MostOf (always r.ships r.slots) (knows r) (First v w) (First v w)
most_first r v w lt lw e = record {
  known = pair_from r.ships v w _ lt lw (ap is_first e);
  side = same_from (First v w) (First v w) (record { kinds = refl; ones = refl; others = refl });
  proper = refl;
  greatest = λ m h side. let p = same_parts (First v w) m side in let f = first_floor v w m p in implied_pair (First v w) m p f.1 refl;
}

pub most_not_first : (r : RoomModel) (v w : ℕ) → v < w → w < r.ships → order_of r v w ≡ orders.NotFirst → MostOf (always r.ships r.slots) (knows r) (NotFirst v w) (NotFirst v w)
most_not_first r v w lt lw e = record {
  known = pair_from r.ships v w _ lt lw (ap is_not_first e);
  side = same_from (NotFirst v w) (NotFirst v w) (record { kinds = refl; ones = refl; others = refl });
  proper = refl;
  greatest = λ m h side. let p = same_parts (NotFirst v w) m side in let f = not_first_floor v w m p in implied_pair (NotFirst v w) m p f.1 refl;
}
