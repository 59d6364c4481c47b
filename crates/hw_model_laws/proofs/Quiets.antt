-- Sources are quiet alike in rooms that are alike to them.
use Rattle.std.proofs.Common.{◌≡◌, ◌↔◌, ℕ, ◌+◌, ◌*◌, ◌<◌, min, max, Bool, true, false, ◌&&◌, nat_eq, List, Option, Some, None, length, get_or, set, slice_get, IfSome, IsTrue, refl, sym, ◌∙◌, ap, subst, arith, inl, inr, get_or-set_same, get_or-set_other}
use Rattle.std.proofs.lemmas.Bool.{cases_eq, both_ways, and_parts, or_cases, eqb-true}
use Rattle.hw_model.specs.declared.lit.Lit.{Lit}
use Rattle.hw_model.specs.declared.lit.Lit.TheVariants as lits
use Rattle.hw_model.specs.declared.lit.LitTruth.TheVariants.{Free}
use Rattle.hw_model.specs.declared.order.Order.{Order}
use Rattle.hw_model.specs.declared.order.Order.TheVariants.{Unset, First, NotFirst}
use Rattle.hw_model.specs.declared.rule.Rule.{Rule}
use Rattle.hw_model.specs.declared.rule.Rule.TheVariants.{Pair, After, Tugs}
use Rattle.hw_model.specs.declared.source.Source.{Source}
use Rattle.hw_model.specs.declared.source.Source.TheVariants as sources
use Rattle.hw_model.specs.Problem.{Problem}
use Rattle.hw_model.specs.Limits.{IsFlat, RuleFits}
use Rattle.hw_model.specs.Rooms.{RoomModel, RoomFits, low_of, high_of}
use Rattle.hw_model.specs.Narrowing.{with_range, with_order, cut, truth}
use Rattle.hw_model.specs.Refuting.{Refutes, IsSourceOf}
use Rattle.hw_model.specs.Quiet.{QuietSource, names_ship, names_order, names_lit, rule_names_order}
use Rattle.hw_model.specs.Lits.{IsLitOf}
use Rattle.hw_model.proofs.Kept.{placed}
use Rattle.hw_model_laws.proofs.Bounds.{low_new, high_new, low_other, high_other, cut_room_is}
use Rattle.hw_model_laws.proofs.Counting.{at_place}
use Rattle.hw_model_laws.proofs.Cuts.{same_ships}
use Rattle.hw_model_laws.proofs.Ranges.{other_order}
use Rattle.hw_model_laws.specs.Locality.{Alike}
use Rattle.hw_model_laws.proofs.Alikes.{alike_refutes}

pub back : (f : Problem) (source : Source) (a b : RoomModel) → Alike f source a b → Alike f source b a
back f source a b same = record {
  lows = λ ship e. sym (same.lows ship e);
  highs = λ ship e. sym (same.highs ship e);
  orders = λ v w e. sym (same.orders v w e);
}

-- one range of both is set
alike_range : (f : Problem) (source : Source) (a b : RoomModel) (ship low high low' high' : ℕ) → ship < length a.ranges → ship < length b.ranges
    → (IsTrue (names_ship f source ship) → low' ≡ low) → (IsTrue (names_ship f source ship) → high' ≡ high) → Alike f source a b → Alike f source (with_range a ship low high) (with_range b ship low' high')
alike_range f source a b ship low high low' high' la lb p q same = record {
  lows = λ u e. elim (cases_eq u ship) [
    | inl is ↦ subst (λ k. low_of (with_range b ship low' high') k ≡ low_of (with_range a ship low high) k) (sym is) (low_new b ship low' high' lb ∙ p (subst (λ k. IsTrue (names_ship f source k)) is e) ∙ sym (low_new a ship low high la))
    | inr ne ↦ low_other b ship low' high' u ne ∙ same.lows u e ∙ sym (low_other a ship low high u ne)
  ];
  highs = λ u e. elim (cases_eq u ship) [
    | inl is ↦ subst (λ k. high_of (with_range b ship low' high') k ≡ high_of (with_range a ship low high) k) (sym is) (high_new b ship low' high' lb ∙ q (subst (λ k. IsTrue (names_ship f source k)) is e) ∙ sym (high_new a ship low high la))
    | inr ne ↦ high_other b ship low' high' u ne ∙ same.highs u e ∙ sym (high_other a ship low high u ne)
  ];
  orders = same.orders;
}

set_order : (n : ℕ) (os os' : List Order) (v w x y : ℕ) (o : Order) → length os ≡ n * n → length os' ≡ n * n → v < n → w < n
    → get_or os' (x * n + y) Unset ≡ get_or os (x * n + y) Unset → get_or (set os' (v * n + w) o) (x * n + y) Unset ≡ get_or (set os (v * n + w) o) (x * n + y) Unset
set_order n os os' v w x y o size size' vn wn same = elim (cases_eq (x * n + y) (v * n + w)) [
  | inl is ↦ subst (λ k. get_or (set os' (v * n + w) o) k Unset ≡ get_or (set os (v * n + w) o) k Unset) (sym is)
      (get_or-set_same os' (v * n + w) o Unset (omega (arith, size', placed n v w vn wn)) ∙ sym (get_or-set_same os (v * n + w) o Unset (omega (arith, size, placed n v w vn wn))))
  | inr ne ↦ get_or-set_other os' (v * n + w) (x * n + y) o Unset ne ∙ same ∙ sym (get_or-set_other os (v * n + w) (x * n + y) o Unset ne)
]

alike_order : (f : Problem) (source : Source) (a b : RoomModel) (v w : ℕ) (o : Order) → RoomFits f a → RoomFits f b → v < w → w < f.ships → Alike f source a b → Alike f source (with_order a v w o) (with_order b v w o)
alike_order f source a b v w o fa fb lt wn same = record {
  lows = same.lows;
  highs = same.highs;
  orders = λ x y e. by a.ships b.ships fa.same_ships fb.same_ships fa.is_room.each_pair fb.is_room.each_pair x y (same.orders x y e);
}
  where
    by : (m n : ℕ) → m ≡ f.ships → n ≡ f.ships → length a.orders ≡ m * m → length b.orders ≡ n * n → (x y : ℕ) → get_or b.orders (x * n + y) Unset ≡ get_or a.orders (x * m + y) Unset
        → get_or (set b.orders (v * n + w) o) (x * n + y) Unset ≡ get_or (set a.orders (v * m + w) o) (x * m + y) Unset
    by m n p q =
        subst (λ m. length a.orders ≡ m * m → length b.orders ≡ n * n → (x y : ℕ) → get_or b.orders (x * n + y) Unset ≡ get_or a.orders (x * m + y) Unset → get_or (set b.orders (v * n + w) o) (x * n + y) Unset ≡ get_or (set a.orders (v * m + w) o) (x * m + y) Unset) (sym p)
        (subst (λ n. length a.orders ≡ f.ships * f.ships → length b.orders ≡ n * n → (x y : ℕ) → get_or b.orders (x * n + y) Unset ≡ get_or a.orders (x * f.ships + y) Unset → get_or (set b.orders (v * n + w) o) (x * n + y) Unset ≡ get_or (set a.orders (v * f.ships + w) o) (x * f.ships + y) Unset) (sym q)
        (λ size size' x y e. set_order f.ships a.orders b.orders v w x y o size size' (omega (arith, lt, wn)) wn e))

pub alike_quiets : (f : Problem) (source : Source) (best : Option ℕ) (a b : RoomModel) → IsFlat f → RoomFits f a → RoomFits f b → Alike f source a b → QuietSource f source best a → QuietSource f source best b
alike_quiets f source best a b flat fa fb same quiet =
    let inA : (ship : ℕ) → ship < f.ships → ship < length a.ranges = λ ship lt. omega (arith, lt, fa.is_room.each_ship, fa.same_ships) in
    let inB : (ship : ℕ) → ship < f.ships → ship < length b.ranges = λ ship lt. omega (arith, lt, fb.is_room.each_ship, fb.same_ships) in
    let other = back f source a b same in
    record {
      here = λ h. quiet.here (alike_refutes f source best b a flat other h);
      at_low = λ ship lt h. quiet.at_low ship lt
          (alike_refutes f source best (with_range b ship (low_of b ship) (low_of b ship)) (with_range a ship (low_of a ship) (low_of a ship)) flat
          (alike_range f source b a ship (low_of b ship) (low_of b ship) (low_of a ship) (low_of a ship) (inB ship lt) (inA ship lt) (other.lows ship) (other.lows ship) other) h);
      at_high = λ ship lt h. quiet.at_high ship lt
          (alike_refutes f source best (with_range b ship (high_of b ship) (high_of b ship)) (with_range a ship (high_of a ship) (high_of a ship)) flat
          (alike_range f source b a ship (high_of b ship) (high_of b ship) (high_of a ship) (high_of a ship) (inB ship lt) (inA ship lt) (other.highs ship) (other.highs ship) other) h);
      set_first = λ v w lt wn named unset h. quiet.set_first v w lt wn named (other.orders v w named ∙ unset)
          (alike_refutes f source best (with_order b v w First) (with_order a v w First) flat (alike_order f source b a v w First fb fa lt wn other) h);
      set_not_first = λ v w lt wn named unset h. quiet.set_not_first v w lt wn named (other.orders v w named ∙ unset)
          (alike_refutes f source best (with_order b v w NotFirst) (with_order a v w NotFirst) flat (alike_order f source b a v w NotFirst fb fa lt wn other) h);
    }

-- ---- cuts

two_same : (a b v w : ℕ) → (nat_eq a v && nat_eq b w) ≡ true → (a ≡ v) × (b ≡ w)
two_same a b v w e = let p = and_parts (nat_eq a v) (nat_eq b w) e in (eqb-true a v p.0, eqb-true b w p.1)

pub least_in : (v w n : ℕ) → v < n → w < n → max v w < n
least_in v w n p q = omega (arith, p, q)

rule_order_in : (ships : ℕ) (o : Option Rule) (x y : ℕ) → IfSome o (RuleFits ships) → IsTrue (rule_names_order o x y) → y < ships
rule_order_in ships None x y fits e = absurd cc
rule_order_in ships (Some (Pair v w holes)) x y fits e = omega (arith, (two_same x y v w e).1, fits.ship_in)
rule_order_in ships (Some (After v w gap)) x y fits e = omega (arith, (two_same x y (min v w) (max v w) e).1, least_in v w ships fits.first_in fits.second_in)
rule_order_in ships (Some (Tugs fleet later jobs)) x y fits e = absurd cc

-- a pair of whose order a source speaks is one of the problem
pub order_in : (f : Problem) (source : Source) (x y : ℕ) → IsFlat f → IsSourceOf f source → IsTrue (names_order f source x y) → y < f.ships
order_in f (sources.Window v) x y flat of e = absurd cc
order_in f (sources.Rule place) x y flat of e = rule_order_in f.ships (slice_get f.rules place) x y (at_place (RuleFits f.ships) f.rules place flat.each_rule) e
order_in f (sources.Order v w z) x y flat of e = elim (or_cases (nat_eq x v && nat_eq y w) _ e) [
  | inl h ↦ omega (arith, (two_same x y v w h).1, of.1, of.2)
  | inr h ↦ elim (or_cases (nat_eq x w && nat_eq y z) _ h) [
    | inl k ↦ omega (arith, (two_same x y w z k).1, of.2)
    | inr k ↦ omega (arith, (two_same x y v z k).1, of.2)
  ]
]
order_in f sources.Goal x y flat of e = absurd cc

not_named : (b c : Bool) → b ≡ true → c ≡ false → b ≡ c → ⊥
not_named b c p q e = both_ways c q (sym e ∙ p)

cut_range : (f : Problem) (source : Source) (room : RoomModel) (ship low high : ℕ) → names_ship f source ship ≡ false → Alike f source room (with_range room ship low high)
cut_range f source room ship low high none = record {
  lows = λ u e. low_other room ship low high u (λ is. not_named _ _ e none (ap (names_ship f source) is));
  highs = λ u e. high_other room ship low high u (λ is. not_named _ _ e none (ap (names_ship f source) is));
  orders = λ v w e. refl;
}

cut_order : (f : Problem) (source : Source) (room : RoomModel) (v w : ℕ) (o : Order) → IsFlat f → IsSourceOf f source → RoomFits f room → w < room.ships → names_order f source v w ≡ false → Alike f source room (with_order room v w o)
cut_order f source room v w o flat of fits lt none = record {
  lows = λ u e. refl;
  highs = λ u e. refl;
  orders = λ x y e. other_order room v w x y o lt (omega (arith, order_in f source x y flat of e, fits.same_ships)) (λ is. not_named _ _ e none (ap (λ k. names_order f source k y) is.0 ∙ ap (names_order f source v) is.1));
}

-- a room and its cut by a literal of which the source doesn't speak
pub cut_alike : (f : Problem) (source : Source) (room : RoomModel) (lit : Lit) → IsFlat f → IsSourceOf f source → RoomFits f room → IsLitOf room.ships lit → names_lit f source lit ≡ false → Alike f source room (cut lit room)
cut_alike f source room (lits.AtOrAfter ship slot) flat of fits is none = cut_range f source room ship _ _ none
cut_alike f source room (lits.Before ship slot) flat of fits is none = cut_range f source room ship _ _ none
cut_alike f source room (lits.First v w) flat of fits is none = cut_order f source room v w First flat of fits is.1 none
cut_alike f source room (lits.NotFirst v w) flat of fits is none = cut_order f source room v w NotFirst flat of fits is.1 none

pub same_slots : (room : RoomModel) (lit : Lit) → (cut lit room).slots ≡ room.slots
same_slots room (lits.AtOrAfter ship slot) = refl
same_slots room (lits.Before ship slot) = refl
same_slots room (lits.First v w) = refl
same_slots room (lits.NotFirst v w) = refl

pub cut_fits : (f : Problem) (room : RoomModel) (lit : Lit) → RoomFits f room → IsLitOf room.ships lit → truth room lit ≡ Free → RoomFits f (cut lit room)
cut_fits f room lit fits is free = record {
  is_room = cut_room_is room lit fits.is_room is free;
  same_ships = same_ships room lit ∙ fits.same_ships;
  same_slots = same_slots room lit ∙ fits.same_slots;
}

pub unspoken : (f : Problem) (source : Source) (best : Option ℕ) (room : RoomModel) (lit : Lit) → IsFlat f → IsSourceOf f source → RoomFits f room → IsLitOf room.ships lit → truth room lit ≡ Free → names_lit f source lit ≡ false
    → QuietSource f source best room → QuietSource f source best (cut lit room)
unspoken f source best room lit flat of fits is free none quiet =
    alike_quiets f source best room (cut lit room) flat fits (cut_fits f room lit fits is free) (cut_alike f source room lit flat of fits is none) quiet

-- and before the cut
unspoken_before : (f : Problem) (source : Source) (best : Option ℕ) (room : RoomModel) (lit : Lit) → IsFlat f → IsSourceOf f source → RoomFits f room → IsLitOf room.ships lit → truth room lit ≡ Free → names_lit f source lit ≡ false
    → QuietSource f source best (cut lit room) → QuietSource f source best room
unspoken_before f source best room lit flat of fits is free none quiet =
    alike_quiets f source best (cut lit room) room flat (cut_fits f room lit fits is free) fits (back f source room (cut lit room) (cut_alike f source room lit flat of fits is none)) quiet

pub unspoken_both : (f : Problem) (source : Source) (best : Option ℕ) (room : RoomModel) (lit : Lit) → IsFlat f → IsSourceOf f source → RoomFits f room → IsLitOf room.ships lit → truth room lit ≡ Free → names_lit f source lit ≡ false
    → (QuietSource f source best room ↔ QuietSource f source best (cut lit room))
unspoken_both f source best room lit flat of fits is free none = (unspoken f source best room lit flat of fits is free none, unspoken_before f source best room lit flat of fits is free none)

-- ---- the best

best_refutes : (f : Problem) (source : Source) (best other : Option ℕ) (room : RoomModel) → (source ≡ sources.Goal → ⊥) → Refutes f source best room → Refutes f source other room
best_refutes f (sources.Window ship) best other room ne h = h
best_refutes f (sources.Rule place) best other room ne h = h
best_refutes f (sources.Order v w x) best other room ne h = h
best_refutes f sources.Goal best other room ne h = absurd (ne refl)

pub best_quiet : (f : Problem) (source : Source) (best other : Option ℕ) (room : RoomModel) → (source ≡ sources.Goal → ⊥) → QuietSource f source best room → QuietSource f source other room
best_quiet f source best other room ne quiet = record {
  here = λ h. quiet.here (best_refutes f source other best room ne h);
  at_low = λ ship lt h. quiet.at_low ship lt (best_refutes f source other best _ ne h);
  at_high = λ ship lt h. quiet.at_high ship lt (best_refutes f source other best _ ne h);
  set_first = λ v w lt wn named unset h. quiet.set_first v w lt wn named unset (best_refutes f source other best _ ne h);
  set_not_first = λ v w lt wn named unset h. quiet.set_not_first v w lt wn named unset (best_refutes f source other best _ ne h);
}
