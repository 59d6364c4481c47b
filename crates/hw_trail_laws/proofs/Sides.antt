-- Laws of literals.
use Rattle.std.proofs.Common.{◌≡◌, ◌≤◌, true, refl, arith, ◌⊎◌, inl, inr, ◌∙◌, sym}
use Rattle.std.proofs.lemmas.Bool.{leb-true, eqb-true, eq-eqb, le-leb, cases_lt, and_parts, and_from}
use Rattle.hw_model.specs.declared.lit.Lit.{Lit}
use Rattle.hw_model.specs.declared.lit.Lit.TheVariants.{AtOrAfter, Before, First, NotFirst}
use Rattle.hw_model.specs.Lits.{negation}
use Rattle.hw_trail_laws.specs.Sides.{same_side, implies, kind, one, other, floor, roof}

pub neg_neg : (l : Lit) → negation (negation l) ≡ l
neg_neg (AtOrAfter v k) = refl
neg_neg (Before v k) = refl
neg_neg (First v w) = refl
neg_neg (NotFirst v w) = refl

pub record SameSide (l m : Lit) : Type 0 where
  pub kinds : kind l ≡ kind m
  pub ones : one l ≡ one m
  pub others : other l ≡ other m

pub record Implied (l m : Lit) : Type 0 where
  pub kinds : kind l ≡ kind m
  pub ones : one l ≡ one m
  pub others : other l ≡ other m
  pub floors : floor m ≤ floor l
  pub roofs : roof l ≤ roof m

pub same_parts : (l m : Lit) → same_side l m ≡ true → SameSide l m
unfolding same_side
same_parts l m h =
    let a = and_parts _ _ h in
    let b = and_parts _ _ a.1 in
    record { kinds = eqb-true _ _ a.0; ones = eqb-true _ _ b.0; others = eqb-true _ _ b.1 }

pub same_from : (l m : Lit) → SameSide l m → same_side l m ≡ true
unfolding same_side
same_from l m h = and_from _ _ (eq-eqb _ _ h.kinds) (and_from _ _ (eq-eqb _ _ h.ones) (eq-eqb _ _ h.others))

pub implied_parts : (l m : Lit) → implies l m ≡ true → Implied l m
unfolding implies
implied_parts l m h =
    let a = and_parts _ _ h in
    let s = same_parts l m a.0 in
    let b = and_parts _ _ a.1 in
    record { kinds = s.kinds; ones = s.ones; others = s.others; floors = leb-true _ _ b.0; roofs = leb-true _ _ b.1 }

pub implied_from : (l m : Lit) → Implied l m → implies l m ≡ true
unfolding implies
implied_from l m h =
    and_from _ _ (same_from l m (record { kinds = h.kinds; ones = h.ones; others = h.others }))
    (and_from _ _ (le-leb _ _ h.floors) (le-leb _ _ h.roofs))

pub implies_self : (l : Lit) → implies l l ≡ true
implies_self l = implied_from l l (record { kinds = refl; ones = refl; others = refl; floors = omega arith; roofs = omega arith })

pub implies_trans : (l m n : Lit) → implies l m ≡ true → implies m n ≡ true → implies l n ≡ true
implies_trans l m n p q =
    let a = implied_parts l m p in
    let b = implied_parts m n q in
    implied_from l n (record { kinds = a.kinds ∙ b.kinds; ones = a.ones ∙ b.ones; others = a.others ∙ b.others; floors = omega arith; roofs = omega arith })

pub same_when_implied : (l m : Lit) → implies l m ≡ true → same_side l m ≡ true
same_when_implied l m p =
    let a = implied_parts l m p in
    same_from l m (record { kinds = a.kinds; ones = a.ones; others = a.others })

pub same_sym : (l m : Lit) → same_side l m ≡ true → same_side m l ≡ true
same_sym l m p =
    let a = same_parts l m p in
    same_from m l (record { kinds = sym a.kinds; ones = sym a.ones; others = sym a.others })

pub same_trans : (l m n : Lit) → same_side l m ≡ true → same_side m n ≡ true → same_side l n ≡ true
same_trans l m n p q =
    let a = same_parts l m p in
    let b = same_parts m n q in
    same_from l n (record { kinds = a.kinds ∙ b.kinds; ones = a.ones ∙ b.ones; others = a.others ∙ b.others })

-- a literal and its negation are of two sides
other_kind : (m : Lit) → kind m ≡ kind (negation m) → ⊥
other_kind (AtOrAfter v k) h = omega (arith, h)
other_kind (Before v k) h = omega (arith, h)
other_kind (First v w) h = omega (arith, h)
other_kind (NotFirst v w) h = omega (arith, h)

pub not_both : (l m : Lit) → implies l m ≡ true → implies l (negation m) ≡ true → ⊥
not_both l m p q =
    let a = implied_parts l m p in
    let b = implied_parts l (negation m) q in
    other_kind m (sym a.kinds ∙ b.kinds)

-- of two literals of one side one implies the other
floor_or_roof : (l m : Lit) → kind l ≡ kind m → ((floor m ≤ floor l) × (roof l ≤ roof m)) ⊎ ((floor l ≤ floor m) × (roof m ≤ roof l))
floor_or_roof (AtOrAfter v k) (AtOrAfter w j) h = elim (cases_lt j k) [ inl p ↦ inl (omega arith, omega arith) | inr p ↦ inr (omega arith, omega arith) ]
floor_or_roof (Before v k) (Before w j) h = elim (cases_lt j k) [ inl p ↦ inr (omega arith, omega arith) | inr p ↦ inl (omega arith, omega arith) ]
floor_or_roof (First v w) (First x y) h = inl (omega arith, omega arith)
floor_or_roof (NotFirst v w) (NotFirst x y) h = inl (omega arith, omega arith)
floor_or_roof _ _ h = absurd (omega (arith, h))

pub implies_either : (l m : Lit) → same_side l m ≡ true → (implies l m ≡ true) ⊎ (implies m l ≡ true)
implies_either l m p =
    let a = same_parts l m p in
    elim (floor_or_roof l m a.kinds) [
      | inl h ↦ inl (implied_from l m (record { kinds = a.kinds; ones = a.ones; others = a.others; floors = h.0; roofs = h.1 }))
      | inr h ↦ inr (implied_from m l (record { kinds = sym a.kinds; ones = sym a.ones; others = sym a.others; floors = h.0; roofs = h.1 }))
    ]

neg_parts : (l m : Lit) → Implied l m → Implied (negation m) (negation l)
neg_parts (AtOrAfter v k) (AtOrAfter w j) p = record { kinds = refl; ones = sym p.ones; others = refl; floors = omega arith; roofs = p.floors }
neg_parts (Before v k) (Before w j) p = record { kinds = refl; ones = sym p.ones; others = refl; floors = p.roofs; roofs = omega arith }
neg_parts (First v w) (First x y) p = record { kinds = refl; ones = sym p.ones; others = sym p.others; floors = omega arith; roofs = omega arith }
neg_parts (NotFirst v w) (NotFirst x y) p = record { kinds = refl; ones = sym p.ones; others = sym p.others; floors = omega arith; roofs = omega arith }
neg_parts _ _ p = absurd (omega (arith, p.kinds))

pub implies_neg : (l m : Lit) → implies l m ≡ true → implies (negation m) (negation l) ≡ true
implies_neg l m p = implied_from (negation m) (negation l) (neg_parts l m (implied_parts l m p))

equal_parts : (l m : Lit) → Implied l m → Implied m l → l ≡ m
equal_parts (AtOrAfter v k) (AtOrAfter w j) p q = let e : k ≡ j = omega (arith, p.floors, q.floors) in let f : v ≡ w = p.ones in cc
equal_parts (Before v k) (Before w j) p q = let e : k ≡ j = omega (arith, p.roofs, q.roofs) in let f : v ≡ w = p.ones in cc
equal_parts (First v w) (First x y) p q = let f : v ≡ x = p.ones in let g : w ≡ y = p.others in cc
equal_parts (NotFirst v w) (NotFirst x y) p q = let f : v ≡ x = p.ones in let g : w ≡ y = p.others in cc
equal_parts _ _ p q = absurd (omega (arith, p.kinds))

pub implies_antisym : (l m : Lit) → implies l m ≡ true → implies m l ≡ true → l ≡ m
implies_antisym l m p q = equal_parts l m (implied_parts l m p) (implied_parts m l q)
