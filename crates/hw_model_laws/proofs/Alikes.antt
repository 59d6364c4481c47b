-- Rooms that are alike to a source are refuted alike.
use Rattle.std.proofs.Common.{◌≡◌, ℕ, zero, suc, ◌+◌, ◌<◌, ◌≤◌, min, max, Bool, true, false, cond, ◌&&◌, nat_eq, nat_lt, nat_le, List, [], ◌∷◌, Option, Some, None, slice_get, sum_by, IfSome, IsSomeAnd, IsTrue, All, refl, ◌∙◌, ap, subst, arith, inl, inr, le_trans}
use Rattle.std.proofs.lemmas.Bool.{eq-eqb, or_left, or_right, and_from, lt-ltb, ltb-true, ltb-false}
use Rattle.std.proofs.lemmas.List.Elements.{All-nil, All-cons}
use Rattle.std.proofs.lemmas.List.Sums.{sum_by-cons}
use Rattle.std.specs.List.{list_any, range_with_len}
use Rattle.hw_model.specs.declared.rule.Job.{Job}
use Rattle.hw_model.specs.declared.rule.Rule.{Rule}
use Rattle.hw_model.specs.declared.rule.Rule.TheVariants.{Pair, After, Tugs}
use Rattle.hw_model.specs.declared.source.Source.{Source}
use Rattle.hw_model.specs.declared.source.Source.TheVariants as sources
use Rattle.hw_model.specs.Rules.{fleet_in}
use Rattle.hw_model.specs.Problem.{Problem}
use Rattle.hw_model.specs.Limits.{IsFlat, RuleFits}
use Rattle.hw_model.specs.Rooms.{RoomModel, InRange, agrees, order_of, low_of, high_of}
use Rattle.hw_model.specs.Refuting.{Refutes, RuleRefutes, NoneMeets, fits_order, forced_by, greatest_value, greatest_sum}
use Rattle.hw_model.specs.Quiet.{rule_names_ship, rule_names_order}
use Rattle.hw_model_laws.proofs.Counting.{sum_le, at_place}
use Rattle.hw_model_laws.specs.Locality.{Alike}

in_alike : (a b : RoomModel) (ship x : ℕ) → low_of b ship ≡ low_of a ship → high_of b ship ≡ high_of a ship → InRange b ship x → InRange a ship x
in_alike a b ship x p q r = (omega (arith, p, r.0), omega (arith, q, r.1))

fits_alike : (a b : RoomModel) (v w x y : ℕ) → (v < w → order_of b v w ≡ order_of a v w) → (w ≤ v → order_of b w v ≡ order_of a w v) → IsTrue (fits_order b v w x y) → IsTrue (fits_order a v w x y)
fits_alike a b v w x y up down e = by (nat_lt v w) refl e
  where
    by : (t : Bool) → nat_lt v w ≡ t → cond t (agrees (order_of b v w) x y) (agrees (order_of b w v) y x) ≡ true → cond t (agrees (order_of a v w) x y) (agrees (order_of a w v) y x) ≡ true
    by true t e = subst (λ o. agrees o x y ≡ true) (up (ltb-true v w t)) e
    by false t e = subst (λ o. agrees o y x ≡ true) (down (ltb-false v w t)) e

none_alike : (f : Problem) (a b : RoomModel) (rule : Rule) (v w : ℕ) → low_of b v ≡ low_of a v → high_of b v ≡ high_of a v → low_of b w ≡ low_of a w → high_of b w ≡ high_of a w
    → (v < w → order_of b v w ≡ order_of a v w) → (w ≤ v → order_of b w v ≡ order_of a w v) → NoneMeets f a rule v w → NoneMeets f b rule v w
none_alike f a b rule v w p q r s up down none = λ x y hx hy e. none x y (in_alike a b v x p q hx) (in_alike a b w y r s hy) (fits_alike a b v w x y up down e)

-- ---- tugs

pub forced_same : (low high low' high' slot hold tugs : ℕ) → low' ≡ low → high' ≡ high → cond (nat_le high slot && nat_lt slot (low + hold)) tugs 0 ≡ cond (nat_le high' slot && nat_lt slot (low' + hold)) tugs 0
forced_same low high low' high' slot hold tugs p q = rw (p, q) refl

forced_alike : (a b : RoomModel) (slot : ℕ) (jobs : List Job) → ((ship : ℕ) → list_any (λ job. nat_eq job.ship ship) jobs ≡ true → low_of b ship ≡ low_of a ship) → ((ship : ℕ) → list_any (λ job. nat_eq job.ship ship) jobs ≡ true → high_of b ship ≡ high_of a ship)
    → All (λ job. forced_by a slot job ≤ forced_by b slot job) jobs
forced_alike a b slot [] lows highs = All-nil (λ job. forced_by a slot job ≤ forced_by b slot job)
forced_alike a b slot (job ∷ jobs) lows highs =
    let here : list_any (λ j. nat_eq j.ship job.ship) (job ∷ jobs) ≡ true = or_left (nat_eq job.ship job.ship) _ (eq-eqb job.ship job.ship refl) in
    let same : forced_by a slot job ≡ forced_by b slot job = forced_same (low_of a job.ship) (high_of a job.ship) (low_of b job.ship) (high_of b job.ship) slot job.hold job.tugs (lows job.ship here) (highs job.ship here) in
    let le : forced_by a slot job ≤ forced_by b slot job = omega (arith, same) in
    All-cons (λ job. forced_by a slot job ≤ forced_by b slot job) job jobs le
    (forced_alike a b slot jobs (λ ship e. lows ship (or_right (nat_eq job.ship ship) _ e)) (λ ship e. highs ship (or_right (nat_eq job.ship ship) _ e)))

-- ---- rules

rule_alike : (f : Problem) (a b : RoomModel) (o : Option Rule) → IfSome o (RuleFits f.ships) → ((ship : ℕ) → IsTrue (rule_names_ship o ship) → low_of b ship ≡ low_of a ship) → ((ship : ℕ) → IsTrue (rule_names_ship o ship) → high_of b ship ≡ high_of a ship)
    → ((v w : ℕ) → IsTrue (rule_names_order o v w) → order_of b v w ≡ order_of a v w) → IsSomeAnd o (RuleRefutes f a) → IsSomeAnd o (RuleRefutes f b)
rule_alike f a b None fits lows highs orders h = absurd h
rule_alike f a b (Some (Pair v w holes)) fits lows highs orders h =
    let first : (nat_eq v v) ≡ true = eq-eqb v v refl in
    let second : (nat_eq w w) ≡ true = eq-eqb w w refl in
    none_alike f a b (Pair v w holes) v w (lows v (or_left _ _ first)) (highs v (or_left _ _ first)) (lows w (or_right (nat_eq w v) _ second)) (highs w (or_right (nat_eq w v) _ second))
    (λ lt. orders v w (and_from _ _ first second)) (λ le. never v w fits.ascends le) h
  where
    never : {X : Type 0} (v w : ℕ) → v < w → w ≤ v → X
    never v w lt le = absurd (omega (arith, lt, le))
rule_alike f a b (Some (After v w gap)) fits lows highs orders h =
    let first : (nat_eq v v) ≡ true = eq-eqb v v refl in
    let second : (nat_eq w w) ≡ true = eq-eqb w w refl in
    none_alike f a b (After v w gap) v w (lows v (or_left _ _ first)) (highs v (or_left _ _ first)) (lows w (or_right (nat_eq w v) _ second)) (highs w (or_right (nat_eq w v) _ second))
    (λ lt. orders v w (and_from _ _ (eq-eqb v (min v w) (least v w lt)) (eq-eqb w (max v w) (most v w lt)))) (λ le. orders w v (and_from _ _ (eq-eqb w (min v w) (least' v w le)) (eq-eqb v (max v w) (most' v w le)))) h
  where
    least : (v w : ℕ) → v < w → v ≡ min v w
    least v w lt = omega (arith, lt)

    most : (v w : ℕ) → v < w → w ≡ max v w
    most v w lt = omega (arith, lt)

    least' : (v w : ℕ) → w ≤ v → w ≡ min v w
    least' v w le = omega (arith, le)

    most' : (v w : ℕ) → w ≤ v → v ≡ max v w
    most' v w le = omega (arith, le)
rule_alike f a b (Some (Tugs fleet later jobs)) fits lows highs orders h =
    let more : fleet_in fleet later h.0 < sum_by (forced_by a h.0) jobs = h.2 in
    (h.0, h.1, omega (arith, more, sum_le (forced_by a h.0) (forced_by b h.0) jobs (forced_alike a b h.0 jobs lows highs)))

-- ---- the goal

sum_alike : (g h : ℕ → ℕ) (from count : ℕ) → ((k : ℕ) → k < from + count → g k ≡ h k) → sum_by g (range_with_len from count) ≡ sum_by h (range_with_len from count)
sum_alike g h from zero each = refl
sum_alike g h from (suc count) each =
    omega (
      arith,
      sum_by-cons g from (range_with_len (from + 1) count),
      sum_by-cons h from (range_with_len (from + 1) count),
      each from (omega arith),
      sum_alike g h (from + 1) count (λ k lt. each k (omega (arith, lt))),
    )

goal_alike : (best : Option ℕ) (a b : ℕ) → b ≡ a → IsSomeAnd best (λ most. a ≤ most) → IsSomeAnd best (λ most. b ≤ most)
goal_alike None a b same h = absurd h
goal_alike (Some most) a b same h = le_trans (omega (arith, same)) h

pub values_alike : (f : Problem) (ship low high low' high' : ℕ) → low' ≡ low → high' ≡ high → greatest_value f ship low' high' ≡ greatest_value f ship low high
values_alike f ship low high low' high' p q = ap (λ l. greatest_value f ship l high') p ∙ ap (greatest_value f ship low) q

pub alike_refutes : (f : Problem) (source : Source) (best : Option ℕ) (a b : RoomModel) → IsFlat f → Alike f source a b → Refutes f source best a → Refutes f source best b
alike_refutes f (sources.Window ship) best a b flat same h =
    let here : (nat_eq ship ship) ≡ true = eq-eqb ship ship refl in
    λ slot r. h slot (in_alike a b ship slot (same.lows ship here) (same.highs ship here) r)
alike_refutes f (sources.Rule place) best a b flat same h =
    rule_alike f a b (slice_get f.rules place) (at_place (RuleFits f.ships) f.rules place flat.each_rule) same.lows same.highs same.orders h
alike_refutes f (sources.Order v w x) best a b flat same h =
    let vv : (nat_eq v v) ≡ true = eq-eqb v v refl in
    let ww : (nat_eq w w) ≡ true = eq-eqb w w refl in
    let xx : (nat_eq x x) ≡ true = eq-eqb x x refl in
    let vw : order_of b v w ≡ order_of a v w = same.orders v w (or_left _ _ (and_from _ _ vv ww)) in
    let wx : order_of b w x ≡ order_of a w x = same.orders w x (or_right (nat_eq w v && nat_eq x w) _ (or_left _ _ (and_from _ _ ww xx))) in
    let vx : order_of b v x ≡ order_of a v x = same.orders v x (or_right (nat_eq v v && nat_eq x w) _ (or_right (nat_eq v w && nat_eq x x) _ (and_from _ _ vv xx))) in
    elim h [
      | inl e ↦ inl (vw ∙ e.0, wx ∙ e.1, vx ∙ e.2)
      | inr e ↦ inr (vw ∙ e.0, wx ∙ e.1, vx ∙ e.2)
    ]
alike_refutes f sources.Goal best a b flat same h =
    goal_alike best (greatest_sum f a) (greatest_sum f b)
    (sum_alike (λ ship. greatest_value f ship (low_of b ship) (high_of b ship)) (λ ship. greatest_value f ship (low_of a ship) (high_of a ship)) 0 f.ships
    (λ ship lt. values_alike f ship (low_of a ship) (high_of a ship) (low_of b ship) (high_of b ship) (same.lows ship (lt-ltb ship f.ships (omega (arith, lt)))) (same.highs ship (lt-ltb ship f.ships (omega (arith, lt)))))) h
