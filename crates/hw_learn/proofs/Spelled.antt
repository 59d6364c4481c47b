-- The normal clause whose denied room is a room spells what the room knows.
use Rattle.std.proofs.Common.{◌≡◌, ℕ, ◌≤◌, true, false, ◌⊎◌, inl, inr, refl, sym, subst, List, None, arith, nat_lt, nat_le}
use Rattle.std.proofs.lemmas.Bool.{and_parts, and_from, ltb-true, leb-true, lt-ltb, le-leb}
use Rattle.hw_model.specs.declared.lit.Lit.{Lit}
use Rattle.hw_model.specs.declared.lit.Lit.TheVariants.{AtOrAfter, Before, First, NotFirst}
use Rattle.hw_model.specs.Lits.{negation, IsClause}
use Rattle.hw_model.specs.Rooms.{RoomModel}
use Rattle.hw_model.specs.Narrowing.{denied}
use Rattle.hw_flat.specs.Opened.{shape_in}
use Rattle.hw_trail_laws.specs.Sides.{same_side, implies}
use Rattle.hw_trail_laws.specs.Knowing.{knows, always}
use Rattle.hw_trail_laws.specs.Walks.{InClause, CoveredByLemma, SpellsLemma}
use Rattle.hw_trail_laws.proofs.Sides.{SameSide, Implied, same_parts, implied_parts, same_from, same_trans, same_sym, same_when_implied, implies_self, implies_either}
use Rattle.hw_trail_laws.proofs.Ends.{denied_parts, denied_from}
use Rattle.hw_trail_laws.proofs.Denials.{denied_knows, knows_denied, in_fits}
use Rattle.hw_trail_laws.proofs.Levels.{fits_fresh}
use Rattle.hw_trail_laws.proofs.Normal.{one_a_side}

-- literals whose negations are of one side
unnegated : (l m : Lit) → SameSide (negation l) (negation m) → SameSide l m
unnegated (AtOrAfter v k) (AtOrAfter w j) p = record { kinds = refl; ones = p.ones; others = refl }
unnegated (Before v k) (Before w j) p = record { kinds = refl; ones = p.ones; others = refl }
unnegated (First v w) (First x y) p = record { kinds = refl; ones = p.ones; others = p.others }
unnegated (NotFirst v w) (NotFirst x y) p = record { kinds = refl; ones = p.ones; others = p.others }
unnegated _ _ p = absurd (omega (arith, p.kinds))

-- what follows from what each room knows
always_closed : (ships slots : ℕ) (l m : Lit) → Implied l m → always ships slots l ≡ true → always ships slots m ≡ true
always_closed ships slots (AtOrAfter v k) (AtOrAfter w j) p h =
    let a = and_parts (nat_lt v ships) (nat_le k 0) h in
    and_from (nat_lt w ships) (nat_le j 0) (lt-ltb w ships (omega (arith, ltb-true _ _ a.0, p.ones))) (le-leb j 0 (omega (arith, leb-true _ _ a.1, p.floors)))
always_closed ships slots (Before v k) (Before w j) p h =
    let a = and_parts (nat_lt v ships) (nat_le slots k) h in
    and_from (nat_lt w ships) (nat_le slots j) (lt-ltb w ships (omega (arith, ltb-true _ _ a.0, p.ones))) (le-leb slots j (omega (arith, leb-true _ _ a.1, p.roofs)))
always_closed ships slots (First v w) m p h = absurd cc
always_closed ships slots (NotFirst v w) m p h = absurd cc
always_closed ships slots _ _ p h = absurd (omega (arith, p.kinds))

pub spelled : (room : RoomModel) (clause : List Lit) → 1 ≤ room.slots → IsClause (shape_in room) clause → denied (shape_in room) clause ≡ room → SpellsLemma (always room.ships room.slots) (knows room) clause
spelled room clause some normal e = record {
  known = λ l i. subst (λ (r : RoomModel). knows r (negation l) ≡ true) e (knows_denied (shape_in room) clause some normal (negation l) (denied_from (always room.ships room.slots) clause l (negation l) i (implies_self (negation l))));
  greatest = greatest;
  all = parts;
  proper = λ l i. fits_fresh (shape_in room) l (in_fits (shape_in room) clause 0 None normal l i);
}
  where
    parts : (m : Lit) → knows room m ≡ true → (always room.ships room.slots m ≡ true) ⊎ CoveredByLemma (knows room) clause m
    parts m y = elim (denied_parts (always room.ships room.slots) clause m (denied_knows (shape_in room) clause some normal m (subst (λ (r : RoomModel). knows r m ≡ true) (sym e) y))) [
      | inl o ↦ inl o
      | inr c ↦ inr (record { by = c.by; within = c.within; implied = c.implied })
    ]

    greatest : (l : Lit) → InClause l clause → (m : Lit) → knows room m ≡ true → same_side (negation l) m ≡ true → implies (negation l) m ≡ true
    greatest l i m y side = elim (parts m y) [
      | inl o ↦ elim (implies_either (negation l) m side) [
        | inl h ↦ h
        | inr h ↦
            let out : always room.ships room.slots (negation l) ≡ false = fits_fresh (shape_in room) l (in_fits (shape_in room) clause 0 None normal l i) in
            let known : always room.ships room.slots (negation l) ≡ true = always_closed room.ships room.slots m (negation l) (implied_parts m (negation l) h) o in
            absurd cc
      ]
      | inr c ↦
          let back : same_side (negation c.by) (negation l) ≡ true = same_trans (negation c.by) m (negation l) (same_when_implied (negation c.by) m c.implied) (same_sym (negation l) m side) in
          let same : c.by ≡ l = one_a_side (shape_in room) clause normal c.by l c.within i (same_from c.by l (unnegated c.by l (same_parts (negation c.by) (negation l) back))) in
          subst (λ (x : Lit). implies (negation x) m ≡ true) same c.implied
    ]
