-- The test of a refutation computes it.
use Rattle.std.proofs.Common.{◌≡◌, ◌⊎◌, ℕ, ◌+◌, ◌-◌, ◌≤◌, Bool, true, false, not, ◌&&◌, nat_lt, Option, Some, None, slice_get, sum_by, is_none, IsSomeAnd, refl, arith, inl, inr}
use Rattle.std.proofs.lemmas.Bool.{not-true, not_from_false, ltb-true, lt-ltb, leb-true, le-leb, and_parts, and_from, or_cases, or_left, or_right}
use Rattle.std.specs.List.{list_all}
use Rattle.hw_model.specs.declared.order.Order.{Order}
use Rattle.hw_model.specs.declared.order.Order.TheVariants.{Unset, First, NotFirst}
use Rattle.hw_model.specs.declared.rule.Rule.{Rule}
use Rattle.hw_model.specs.declared.rule.Rule.TheVariants.{Pair, After, Tugs}
use Rattle.hw_model.specs.declared.source.Source.{Source}
use Rattle.hw_model.specs.declared.source.Source.TheVariants as sources
use Rattle.hw_model.specs.Problem.{Problem, horizon, value_at}
use Rattle.hw_model.specs.Rules.{pair_holds, fleet_in}
use Rattle.hw_model.specs.Rooms.{RoomModel, InRange, low_of, high_of}
use Rattle.hw_model.specs.Refuting.{Refutes, RuleRefutes, NoneMeets, fits_order, forced_by}
use Rattle.hw_model.specs.RefutingComputed.{refutes, refutes_at, rule_refutes, none_meets, slots_of, orders_clash, is_first, is_not_first, at_most_best}
use Rattle.hw_model_laws.proofs.Counting.{all_of_range, range_all, any_of_range, range_any}

none_is : (o : Option ℕ) → is_none o ≡ true → o ≡ None
none_is None e = refl
none_is (Some x) e = absurd cc

is_none_of : (o : Option ℕ) → o ≡ None → is_none o ≡ true
is_none_of None e = refl
is_none_of (Some x) e = absurd cc

both_false : (a b : Bool) → not (a && b) ≡ true → a ≡ true → b ≡ false
both_false true b e h = not-true b e
both_false false b e h = absurd cc

not_both : (a b : Bool) → (a ≡ true → b ≡ false) → not (a && b) ≡ true
not_both true b h = not_from_false b (h refl)
not_both false b h = refl

-- ---- two ships

meets_from : (f : Problem) (room : RoomModel) (rule : Rule) (v w : ℕ) → none_meets f room rule v w ≡ true → NoneMeets f room rule v w
meets_from f room rule v w e = λ x y hx hy fits.
    let row : list_all (λ y. not (fits_order room v w x y && pair_holds f rule x y)) (slots_of room w) ≡ true = all_of_range (λ x. list_all (λ y. not (fits_order room v w x y && pair_holds f rule x y)) (slots_of room w)) (low_of room v) (high_of room v + 1 - low_of room v) e x hx.0 (omega (arith, hx.0, hx.1)) in
    let one : not (fits_order room v w x y && pair_holds f rule x y) ≡ true = all_of_range (λ y. not (fits_order room v w x y && pair_holds f rule x y)) (low_of room w) (high_of room w + 1 - low_of room w) row y hy.0 (omega (arith, hy.0, hy.1)) in
    both_false _ _ one fits

from_meets : (f : Problem) (room : RoomModel) (rule : Rule) (v w : ℕ) → NoneMeets f room rule v w → none_meets f room rule v w ≡ true
from_meets f room rule v w h = range_all _ (low_of room v) (high_of room v + 1 - low_of room v) (λ x a b.
    let hx : InRange room v x = (a, omega (arith, a, b)) in
    range_all _ (low_of room w) (high_of room w + 1 - low_of room w) (λ y c d.
    let hy : InRange room w y = (c, omega (arith, c, d)) in
    not_both (fits_order room v w x y) (pair_holds f rule x y) (h x y hx hy)))

-- ---- rules

rule_from : (f : Problem) (room : RoomModel) (rule : Rule) → rule_refutes f room rule ≡ true → RuleRefutes f room rule
rule_from f room (Pair v w holes) e = meets_from f room (Pair v w holes) v w e
rule_from f room (After v w gap) e = meets_from f room (After v w gap) v w e
rule_from f room (Tugs fleet later jobs) e =
    let r = any_of_range (λ slot. nat_lt (fleet_in fleet later slot) (sum_by (forced_by room slot) jobs)) 0 (horizon f) e in
    (r.0, omega (arith, r.2), ltb-true _ _ r.3)

from_rule : (f : Problem) (room : RoomModel) (rule : Rule) → RuleRefutes f room rule → rule_refutes f room rule ≡ true
from_rule f room (Pair v w holes) h = from_meets f room (Pair v w holes) v w h
from_rule f room (After v w gap) h = from_meets f room (After v w gap) v w h
from_rule f room (Tugs fleet later jobs) h = range_any (λ slot. nat_lt (fleet_in fleet later slot) (sum_by (forced_by room slot) jobs)) 0 (horizon f) h.0 (omega arith) (omega (arith, h.1)) (lt-ltb _ _ h.2)

at_from : (f : Problem) (room : RoomModel) (o : Option Rule) → refutes_at f room o ≡ true → IsSomeAnd o (RuleRefutes f room)
at_from f room None e = absurd cc
at_from f room (Some rule) e = rule_from f room rule e

from_at : (f : Problem) (room : RoomModel) (o : Option Rule) → IsSomeAnd o (RuleRefutes f room) → refutes_at f room o ≡ true
from_at f room None h = absurd h
from_at f room (Some rule) h = from_rule f room rule h

-- ---- orders

pub first_is : (o : Order) → is_first o ≡ true → o ≡ First
first_is Unset e = absurd cc
first_is First e = refl
first_is NotFirst e = absurd cc

is_first_of : (o : Order) → o ≡ First → is_first o ≡ true
is_first_of Unset e = absurd cc
is_first_of First e = refl
is_first_of NotFirst e = absurd cc

pub not_first_is : (o : Order) → is_not_first o ≡ true → o ≡ NotFirst
not_first_is Unset e = absurd cc
not_first_is First e = absurd cc
not_first_is NotFirst e = refl

is_not_first_of : (o : Order) → o ≡ NotFirst → is_not_first o ≡ true
is_not_first_of Unset e = absurd cc
is_not_first_of First e = absurd cc
is_not_first_of NotFirst e = refl

clash_from : (a b c : Order) → orders_clash a b c ≡ true → (((a ≡ First) × (b ≡ First) × (c ≡ NotFirst)) ⊎ ((a ≡ NotFirst) × (b ≡ NotFirst) × (c ≡ First)))
clash_from a b c e = elim (or_cases (is_first a && (is_first b && is_not_first c)) _ e) [
  | inl h ↦
      let p = and_parts (is_first a) _ h in
      let q = and_parts (is_first b) _ p.1 in
      inl (first_is a p.0, first_is b q.0, not_first_is c q.1)
  | inr h ↦
      let p = and_parts (is_not_first a) _ h in
      let q = and_parts (is_not_first b) _ p.1 in
      inr (not_first_is a p.0, not_first_is b q.0, first_is c q.1)
]

from_clash : (a b c : Order) → (((a ≡ First) × (b ≡ First) × (c ≡ NotFirst)) ⊎ ((a ≡ NotFirst) × (b ≡ NotFirst) × (c ≡ First))) → orders_clash a b c ≡ true
from_clash a b c h = elim h [
  | inl e ↦ or_left _ _ (and_from _ _ (is_first_of a e.0) (and_from _ _ (is_first_of b e.1) (is_not_first_of c e.2)))
  | inr e ↦ or_right (is_first a && (is_first b && is_not_first c)) _ (and_from _ _ (is_not_first_of a e.0) (and_from _ _ (is_not_first_of b e.1) (is_first_of c e.2)))
]

-- ---- the goal

best_from : (sum : ℕ) (best : Option ℕ) → at_most_best sum best ≡ true → IsSomeAnd best (λ b. sum ≤ b)
best_from sum None e = absurd cc
best_from sum (Some b) e = leb-true _ _ e

from_best : (sum : ℕ) (best : Option ℕ) → IsSomeAnd best (λ b. sum ≤ b) → at_most_best sum best ≡ true
from_best sum None h = absurd h
from_best sum (Some b) h = le-leb _ _ h

pub tested : (f : Problem) (source : Source) (best : Option ℕ) (room : RoomModel) → refutes f source best room ≡ true → Refutes f source best room
tested f (sources.Window ship) best room e = λ slot h. none_is _ (all_of_range (λ slot. is_none (value_at f ship slot)) (low_of room ship) (high_of room ship + 1 - low_of room ship) e slot h.0 (omega (arith, h.0, h.1)))
tested f (sources.Rule place) best room e = at_from f room (slice_get f.rules place) e
tested f (sources.Order v w x) best room e = clash_from _ _ _ e
tested f sources.Goal best room e = best_from _ best e

pub tests : (f : Problem) (source : Source) (best : Option ℕ) (room : RoomModel) → Refutes f source best room → refutes f source best room ≡ true
tests f (sources.Window ship) best room h = range_all _ (low_of room ship) (high_of room ship + 1 - low_of room ship) (λ slot a b.
    let in' : InRange room ship slot = (a, omega (arith, a, b)) in
    is_none_of (value_at f ship slot) (h slot in'))
tests f (sources.Rule place) best room h = from_at f room (slice_get f.rules place) h
tests f (sources.Order v w x) best room h = from_clash _ _ _ h
tests f sources.Goal best room h = from_best _ best h
