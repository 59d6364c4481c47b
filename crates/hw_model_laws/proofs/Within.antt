-- What refutes a room refutes each room inside it.
use Rattle.std.proofs.Common.{◌≡◌, ◌≢◌, ◌⊎◌, ℕ, zero, suc, ◌+◌, ◌-◌, ◌<◌, ◌≤◌, max, Bool, true, false, cond, ◌&&◌, leb, ltb, nat_lt, List, Option, Some, None, length, get_or, slice_get, fold, sum_by, IfSome, IsSomeAnd, IsTrue, All, refl, sym, ap, ◌∙◌, subst, arith, inl, inr, le_trans, zero-le}
use Rattle.std.proofs.lemmas.Bool.{cases_lt, ltb-true, ltb-false}
use Rattle.std.proofs.lemmas.Bool.Decides.{nat_tests}
use Rattle.std.proofs.lemmas.List.{get_or_past}
use Rattle.std.specs.List.{range_with_len}
use Rattle.hw_model.specs.declared.order.Order.{Order}
use Rattle.hw_model.specs.declared.order.Order.TheVariants.{Unset, First, NotFirst}
use Rattle.hw_model.specs.declared.rule.Job.{Job}
use Rattle.hw_model.specs.declared.rule.Rule.{Rule}
use Rattle.hw_model.specs.declared.rule.Rule.TheVariants.{Pair, After, Tugs}
use Rattle.hw_model.specs.declared.source.Source.{Source}
use Rattle.hw_model.specs.declared.source.Source.TheVariants as sources
use Rattle.hw_model.specs.Rules.{fleet_in}
use Rattle.hw_model.specs.Problem.{Problem}
use Rattle.hw_model.specs.Limits.{RuleFits}
use Rattle.hw_model.specs.Rooms.{RoomModel, RoomFits, RoomWithin, Inside, InRange, agrees, order_of, low_of, high_of}
use Rattle.hw_model.specs.Refuting.{Refutes, RuleRefutes, NoneMeets, IsSourceOf, fits_order, forced_by, greatest_value, greatest_sum}
use Rattle.hw_model_laws.proofs.Counting.{most_at, sum_le, at_place}
use Rattle.hw_model_laws.proofs.Cargoes.{worth}

agrees_outer : (inner outer : Order) (x y : ℕ) → ((outer ≡ Unset) ⊎ (inner ≡ outer)) → IsTrue (agrees inner x y) → IsTrue (agrees outer x y)
agrees_outer inner outer x y h e = elim h [
  | inl unset ↦ subst (λ o. IsTrue (agrees o x y)) (sym unset) refl
  | inr same ↦ subst (λ o. IsTrue (agrees o x y)) same e
]

in_outer : (inner outer : RoomModel) (ship x : ℕ) → RoomWithin inner outer → ship < outer.ships → InRange inner ship x → InRange outer ship x
in_outer inner outer ship x h lt r = (le_trans (h.lows ship lt) r.0, le_trans r.1 (h.highs ship lt))

pub inside_outer : (inner outer : RoomModel) (table : List ℕ) → inner.ships ≡ outer.ships → RoomWithin inner outer → Inside table inner → Inside table outer
inside_outer inner outer table ships h is = record {
  each_ship = is.each_ship ∙ ships;
  ranges = λ ship lt. in_outer inner outer ship _ h lt (is.ranges ship (omega (arith, lt, ships)));
  orders = λ v w vw lt. agrees_outer _ _ _ _ (h.orders v w vw lt) (is.orders v w vw (omega (arith, lt, ships)));
}

-- ---- two ships

fits_outer : (inner outer : RoomModel) (v w x y : ℕ) → RoomWithin inner outer → v < outer.ships → w < outer.ships → v ≢ w → IsTrue (fits_order inner v w x y) → IsTrue (fits_order outer v w x y)
fits_outer inner outer v w x y h a b ne e = by (nat_lt v w) refl e
  where
    below : (v w : ℕ) → v ≢ w → w ≤ v → w < v
    below v w ne le = grind arith

    by : (t : Bool) → nat_lt v w ≡ t → cond t (agrees (order_of inner v w) x y) (agrees (order_of inner w v) y x) ≡ true → cond t (agrees (order_of outer v w) x y) (agrees (order_of outer w v) y x) ≡ true
    by true t e = agrees_outer _ _ _ _ (h.orders v w (ltb-true _ _ t) b) e
    by false t e = agrees_outer _ _ _ _ (h.orders w v (below v w ne (ltb-false v w t)) a) e

none_inner : (f : Problem) (inner outer : RoomModel) (rule : Rule) (v w : ℕ) → RoomWithin inner outer → v < outer.ships → w < outer.ships → v ≢ w → NoneMeets f outer rule v w → NoneMeets f inner rule v w
none_inner f inner outer rule v w h a b ne none = λ x y hx hy e. none x y (in_outer inner outer v x h a hx) (in_outer inner outer w y h b hy) (fits_outer inner outer v w x y h a b ne e)

-- ---- tugs

-- the ends of ranges, those past the last ship too
ends : (inner outer : RoomModel) (ship : ℕ) → length inner.ranges ≡ outer.ships → length outer.ranges ≡ outer.ships → RoomWithin inner outer → (low_of outer ship ≤ low_of inner ship) × (high_of inner ship ≤ high_of outer ship)
ends inner outer ship full full' h = elim (cases_lt ship outer.ships) [
  | inl lt ↦ (h.lows ship lt, h.highs ship lt)
  | inr past ↦
      let a : get_or inner.ranges ship (0, 0) ≡ (0, 0) = get_or_past inner.ranges ship (0, 0) (omega (arith, past, full)) in
      let b : get_or outer.ranges ship (0, 0) ≡ (0, 0) = get_or_past outer.ranges ship (0, 0) (omega (arith, past, full')) in
      let low : low_of outer ship ≡ 0 = ap (λ (p : ℕ × ℕ). p.0) b in
      let high : high_of inner ship ≡ 0 = ap (λ (p : ℕ × ℕ). p.1) a in
      (omega (arith, low), omega (arith, high))
]

forced_more : (low high low' high' slot hold tugs : ℕ) → low ≤ low' → high' ≤ high → cond (leb high slot && ltb slot (low + hold)) tugs 0 ≤ cond (leb high' slot && ltb slot (low' + hold)) tugs 0
forced_more low high low' high' slot hold tugs a b = grind (arith, nat_tests)

forced_inner : (inner outer : RoomModel) (slot : ℕ) (jobs : List Job) → length inner.ranges ≡ outer.ships → length outer.ranges ≡ outer.ships → RoomWithin inner outer → sum_by (forced_by outer slot) jobs ≤ sum_by (forced_by inner slot) jobs
forced_inner inner outer slot jobs full full' h = sum_le (forced_by outer slot) (forced_by inner slot) jobs (λ i d lt. one (get_or jobs i d))
  where
    one : (job : Job) → forced_by outer slot job ≤ forced_by inner slot job
    one job =
        let e = ends inner outer job.ship full full' h in
        forced_more (low_of outer job.ship) (high_of outer job.ship) (low_of inner job.ship) (high_of inner job.ship) slot job.hold job.tugs e.0 e.1

-- ---- rules

rule_inner : (f : Problem) (inner outer : RoomModel) (rule : Rule) → outer.ships ≡ f.ships → length inner.ranges ≡ outer.ships → length outer.ranges ≡ outer.ships → RuleFits f.ships rule → RoomWithin inner outer → RuleRefutes f outer rule → RuleRefutes f inner rule
rule_inner f inner outer (Pair v w holes) ships full full' fits h none = none_inner f inner outer (Pair v w holes) v w h (omega (arith, ships, fits.ascends, fits.ship_in)) (omega (arith, ships, fits.ship_in)) (λ e. less v w fits.ascends e) none
  where
    less : (v w : ℕ) → v < w → v ≡ w → ⊥
    less v w lt e = omega (arith, lt, e)
rule_inner f inner outer (After v w gap) ships full full' fits h none = none_inner f inner outer (After v w gap) v w h (omega (arith, ships, fits.first_in)) (omega (arith, ships, fits.second_in)) fits.two_ships none
rule_inner f inner outer (Tugs fleet later jobs) ships full full' fits h over =
    let more : fleet_in fleet later over.0 < sum_by (forced_by outer over.0) jobs = over.2 in
    (over.0, over.1, omega (arith, more, forced_inner inner outer over.0 jobs full full' h))

rule_at : (f : Problem) (inner outer : RoomModel) (o : Option Rule) → outer.ships ≡ f.ships → length inner.ranges ≡ outer.ships → length outer.ranges ≡ outer.ships → IfSome o (RuleFits f.ships) → RoomWithin inner outer → IsSomeAnd o (RuleRefutes f outer) → IsSomeAnd o (RuleRefutes f inner)
rule_at f inner outer None ships full full' fits h none = absurd none
rule_at f inner outer (Some rule) ships full full' fits h none = rule_inner f inner outer rule ships full full' fits h none

-- ---- orders

set_inner : (inner outer order : Order) → ((outer ≡ Unset) ⊎ (inner ≡ outer)) → outer ≡ order → (order ≡ Unset → ⊥) → inner ≡ order
set_inner inner outer order h e set = elim h [
  | inl unset ↦ absurd (set (sym e ∙ unset))
  | inr same ↦ same ∙ e
]

first_set : First ≡ Unset → ⊥
first_set e = cc

not_first_set : NotFirst ≡ Unset → ⊥
not_first_set e = cc

-- ---- the goal

-- the greatest of a range is at most the greatest of one around it
pub range_le : (h : ℕ → ℕ) (a n m most : ℕ) → m ≤ most → ((k : ℕ) → a ≤ k → k < a + n → h k ≤ most) → fold (λ best k. max best (h k)) m (range_with_len a n) ≤ most
range_le h a zero m most le each = le
range_le h a (suc n) m most le each =
    let here : h a ≤ most = each a (omega arith) (omega arith) in
    range_le h (a + 1) n (max m (h a)) most (omega (arith, le, here)) (λ k from upto. each k (omega (arith, from)) (omega (arith, upto)))

value_inner : (f : Problem) (ship low high low' high' : ℕ) → low ≤ low' → high' ≤ high → greatest_value f ship low' high' ≤ greatest_value f ship low high
value_inner f ship low high low' high' a b = range_le (worth f ship) low' (high' + 1 - low') 0 (greatest_value f ship low high) (zero-le) (λ k from upto. most_at (worth f ship) low (high + 1 - low) 0 k (omega (arith, a, from)) (omega (arith, a, b, from, upto)))

sum_inner : (f : Problem) (inner outer : RoomModel) → length inner.ranges ≡ outer.ships → length outer.ranges ≡ outer.ships → RoomWithin inner outer → greatest_sum f inner ≤ greatest_sum f outer
sum_inner f inner outer full full' h = sum_le (λ ship. greatest_value f ship (low_of inner ship) (high_of inner ship)) (λ ship. greatest_value f ship (low_of outer ship) (high_of outer ship)) (range_with_len 0 f.ships) (λ i d lt. one (get_or (range_with_len 0 f.ships) i d))
  where
    one : (ship : ℕ) → greatest_value f ship (low_of inner ship) (high_of inner ship) ≤ greatest_value f ship (low_of outer ship) (high_of outer ship)
    one ship =
        let e = ends inner outer ship full full' h in
        value_inner f ship (low_of outer ship) (high_of outer ship) (low_of inner ship) (high_of inner ship) e.0 e.1

goal_inner : (best : Option ℕ) (inner outer : ℕ) → inner ≤ outer → IsSomeAnd best (λ b. outer ≤ b) → IsSomeAnd best (λ b. inner ≤ b)
goal_inner None inner outer le h = absurd h
goal_inner (Some b) inner outer le h = le_trans le h

pub refutes_inner : (f : Problem) (source : Source) (best : Option ℕ) (inner outer : RoomModel) → All (RuleFits f.ships) f.rules → RoomFits f inner → RoomFits f outer → IsSourceOf f source → RoomWithin inner outer → Refutes f source best outer → Refutes f source best inner
refutes_inner f (sources.Window ship) best inner outer rules fits fits' of h refutes = λ slot r. refutes slot (in_outer inner outer ship slot h (omega (arith, of, fits'.same_ships)) r)
refutes_inner f (sources.Rule place) best inner outer rules fits fits' of h refutes = rule_at f inner outer (slice_get f.rules place) fits'.same_ships (fits.is_room.each_ship ∙ fits.same_ships ∙ sym fits'.same_ships) fits'.is_room.each_ship (at_place (RuleFits f.ships) f.rules place rules) h refutes
refutes_inner f (sources.Order v w x) best inner outer rules fits fits' of h refutes =
    let x_in : x < outer.ships = omega (arith, of.2, fits'.same_ships) in
    let w_in : w < outer.ships = omega (arith, of.1, x_in) in
    let vx : v < x = omega (arith, of.0, of.1) in
    elim refutes [
      | inl e ↦ inl (set_inner _ _ First (h.orders v w of.0 w_in) e.0 first_set, set_inner _ _ First (h.orders w x of.1 x_in) e.1 first_set, set_inner _ _ NotFirst (h.orders v x vx x_in) e.2 not_first_set)
      | inr e ↦ inr (set_inner _ _ NotFirst (h.orders v w of.0 w_in) e.0 not_first_set, set_inner _ _ NotFirst (h.orders w x of.1 x_in) e.1 not_first_set, set_inner _ _ First (h.orders v x vx x_in) e.2 first_set)
    ]
refutes_inner f sources.Goal best inner outer rules fits fits' of h refutes = goal_inner best _ _ (sum_inner f inner outer (fits.is_room.each_ship ∙ fits.same_ships ∙ sym fits'.same_ships) fits'.is_room.each_ship h) refutes
