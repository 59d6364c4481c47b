-- Windows grown to groups of ships: at most one of a group is sailed in, and the windows that it began with are in it.
use Rattle.std.proofs.Common.{◌≡◌, ℕ, zero, suc, ◌+◌, ◌<◌, ◌≤◌, min, max, pos, Bool, true, false, cond, nat_eq, List, [], ◌∷◌, ◌++◌, Option, Some, None, slice_index, slice_index_or, All, refl, arith, inl, inr}
use Rattle.std.specs.Prelude.{◌-ℤ◌, ◌⊎◌}
use Rattle.std.proofs.lemmas.Bool.{both_ways}
use Rattle.std.proofs.lemmas.List.Elements.{All-head, All-tail, All-push}
use Rattle.hw_model.specs.declared.rule.Hole.{Hole}
use Rattle.hw_model.specs.Problem.{Problem, horizon}
use Rattle.hw_model.specs.Rules.{misses}
use Rattle.hw_model_laws.proofs.Horizon.{horizon_le}
use Rattle.hw_flat_programme.specs.declared.span.Span.{Span}
use Rattle.hw_flat_programme.specs.Programmes.{Point, total, weight_of}
use Rattle.hw_flat_programme.specs.Rows.{IsWindow, SpanFits, span_terms, terms_of, hole_between, sailing_span, apart_by, apart_from, meet, joint_from, joint, with_ship, grown_from}
use Rattle.hw_flat_programme.proofs.Sums.{total-append}
use Rattle.hw_flat_programme.proofs.Sits.{Sits, IsIn, in_span, not_in_span, in_or_not}
use Rattle.hw_flat_programme.proofs.Holes.{partner_in_hole}

-- each ship sits in its slot of the timetable
abbrev pub Seated : Problem → Point → List ℕ → Type 0
Seated f p table = (ship : ℕ) → ship < f.ships → Sits f p ship (slice_index table ship)

-- two ships that sail keep clear of their hole
abbrev pub Clear : Problem → List ℕ → Type 0
Clear f table = (v w : ℕ) (hole : Hole) → hole_between f.rules v w ≡ Some hole → slice_index table v < horizon f → slice_index table w < horizon f → misses (pos (slice_index table w) -ℤ pos (slice_index table v)) hole ≡ true

-- sailing slots, with weight 1
pub record Sails (f : Problem) (span : Span) : Type 0 where
  pub ship_in : span.ship < f.ships
  pub slots_in : span.to ≤ horizon f
  pub one : span.weight ≡ 1

sails_fit : (f : Problem) (span : Span) → Sails f span → SpanFits f span
sails_fit f span sails = record { ship_in = sails.ship_in; slots_in = omega (arith, sails.slots_in, horizon_le f); small = omega (arith, sails.one) }

pub windows_fit : (f : Problem) (spans : List Span) → All (IsWindow f) spans → All (SpanFits f) spans
windows_fit f spans each = λ i d lt. window_fits f (slice_index_or spans i d) (each i d lt)
  where
    window_fits : (f : Problem) (span : Span) → IsWindow f span → SpanFits f span
    window_fits f span window = record { ship_in = window.ship_in; slots_in = omega (arith, window.slots_in, horizon_le f); small = omega (arith, window.one) }

-- ---- the window of a ship

joint_ship : (f : Problem) (ship : ℕ) (so_far : Span) (spans : List Span) → so_far.ship ≡ ship → (joint_from f ship so_far spans).ship ≡ ship
joint_ship f ship so_far [] e = e
joint_ship f ship so_far (span ∷ spans) e = joint_ship f ship (meet so_far (apart_from f ship span)) spans e

joint_sails : (f : Problem) (ship : ℕ) (so_far : Span) (spans : List Span) → Sails f so_far → Sails f (joint_from f ship so_far spans)
joint_sails f ship so_far [] sails = sails
joint_sails f ship so_far (span ∷ spans) sails =
    joint_sails f ship (meet so_far (apart_from f ship span)) spans (record { ship_in = sails.ship_in; slots_in = less so_far.to (apart_from f ship span).to sails.slots_in; one = refl })
  where
    less : (a b : ℕ) → a ≤ horizon f → min a b ≤ horizon f
    less a b le = omega (arith, le)

-- it lies in what it began with
joint_within : (f : Problem) (ship x : ℕ) (so_far : Span) (spans : List Span) → IsIn x (joint_from f ship so_far spans) → IsIn x so_far
joint_within f ship x so_far [] i = i
joint_within f ship x so_far (span ∷ spans) i =
    let within : IsIn x (meet so_far (apart_from f ship span)) = joint_within f ship x (meet so_far (apart_from f ship span)) spans i in
    (from so_far.from (apart_from f ship span).from within.0, to so_far.to (apart_from f ship span).to within.1)
  where
    from : (a b : ℕ) → max a b ≤ x → a ≤ x
    from a b le = omega (arith, le)

    to : (a b : ℕ) → x < min a b → x < a
    to a b lt = omega (arith, lt)

meet_second : (x : ℕ) (a b : Span) → IsIn x (meet a b) → IsIn x b
meet_second x a b i = (from a.from b.from i.0, to a.to b.to i.1)
  where
    from : (a b : ℕ) → max a b ≤ x → b ≤ x
    from a b le = omega (arith, le)

    to : (a b : ℕ) → x < min a b → x < b
    to a b lt = omega (arith, lt)

-- ---- at most one is sailed in

-- where a ship sails in a slot that is kept apart from a span, the span's ship doesn't sail in that
one_apart : (f : Problem) (table : List ℕ) (ship : ℕ) (span : Span) → Clear f table → Sails f span → IsIn (slice_index table ship) (apart_from f ship span) → IsIn (slice_index table span.ship) span → ⊥
one_apart f table ship span clear sails i j = by (hole_between f.rules span.ship ship) refl i
  where
    by : (o : Option Hole) → hole_between f.rules span.ship ship ≡ o → IsIn (slice_index table ship) (apart_by f ship span o) → ⊥
    by None e i = omega (arith, i.1)
    by (Some hole) e i =
        let held = partner_in_hole f ship hole span (slice_index table span.ship) (slice_index table ship) j i in
        both_ways _ held (clear span.ship ship hole e (omega (arith, j.1, sails.slots_in)) (omega (arith, i.1)))

none_taken : (f : Problem) (p : Point) (table : List ℕ) (ship : ℕ) (so_far : Span) (spans : List Span) → Seated f p table → Clear f table → All (Sails f) spans
    → IsIn (slice_index table ship) (joint_from f ship so_far spans) → total p (terms_of f spans) ≡ 0
none_taken f p table ship so_far [] seated clear each i = refl
none_taken f p table ship so_far (span ∷ spans) seated clear each i =
    let sails : Sails f span = All-head (Sails f) span spans each in
    let within : IsIn (slice_index table ship) (meet so_far (apart_from f ship span)) = joint_within f ship (slice_index table ship) (meet so_far (apart_from f ship span)) spans i in
    let here : total p (span_terms f span) ≡ 0 = not_in_span f p (slice_index table span.ship) span (sails_fit f span sails) (seated span.ship sails.ship_in)
    (one_apart f table ship span clear sails (meet_second (slice_index table ship) so_far (apart_from f ship span) within)) in
    let rest : total p (terms_of f spans) ≡ 0 = none_taken f p table ship (meet so_far (apart_from f ship span)) spans seated clear (All-tail (Sails f) span spans each) i in
    omega (arith, total-append p (span_terms f span) (terms_of f spans), here, rest)

pub terms_of-push : (f : Problem) (p : Point) (spans : List Span) (span : Span) → total p (terms_of f (spans ++ span ∷ [])) ≡ total p (terms_of f spans) + total p (span_terms f span)
terms_of-push f p [] span = omega (arith, total-append p (span_terms f span) [])
terms_of-push f p (first ∷ spans) span =
    omega (arith, total-append p (span_terms f first) (terms_of f (spans ++ span ∷ [])), total-append p (span_terms f first) (terms_of f spans), terms_of-push f p spans span)

-- a list of spans with one more, or as it was
either_way : (P : List Span → Type 0) (f : Problem) (spans : List Span) (ship : ℕ) → P spans → P (spans ++ joint f ship spans ∷ []) → P (with_ship f spans ship)
either_way P f spans ship as_is more = by (nat_eq (weight_of (span_terms f (joint f ship spans))) 0)
  where
    by : (b : Bool) → P (cond b spans (spans ++ joint f ship spans ∷ []))
    by true = as_is
    by false = more

all_sailing : (f : Problem) (ship : ℕ) → ship < f.ships → Sails f (sailing_span f ship)
all_sailing f ship lt = record { ship_in = lt; slots_in = omega arith; one = refl }

with_ship_sails : (f : Problem) (spans : List Span) (ship : ℕ) → ship < f.ships → All (Sails f) spans → All (Sails f) (with_ship f spans ship)
with_ship_sails f spans ship lt each =
    either_way (All (Sails f)) f spans ship each (All-push (Sails f) spans (joint f ship spans) each (joint_sails f ship (sailing_span f ship) spans (all_sailing f ship lt)))

with_ship_holds : (f : Problem) (p : Point) (table : List ℕ) (spans : List Span) (ship : ℕ) → Seated f p table → Clear f table → ship < f.ships → All (Sails f) spans → total p (terms_of f spans) ≤ 1 → total p (terms_of f (with_ship f spans ship)) ≤ 1
with_ship_holds f p table spans ship seated clear lt each le =
    either_way (λ (xs : List Span). total p (terms_of f xs) ≤ 1) f spans ship le (added (in_or_not (slice_index table ship) (joint f ship spans)))
  where
    sails : Sails f (joint f ship spans)
    sails = joint_sails f ship (sailing_span f ship) spans (all_sailing f ship lt)

    sits : Sits f p (joint f ship spans).ship (slice_index table ship)
    sits = rw (joint_ship f ship (sailing_span f ship) spans refl) (seated ship lt)

    added : IsIn (slice_index table ship) (joint f ship spans) ⊎ (IsIn (slice_index table ship) (joint f ship spans) → ⊥) → total p (terms_of f (spans ++ joint f ship spans ∷ [])) ≤ 1
    added (inl i) =
        let none = none_taken f p table ship (sailing_span f ship) spans seated clear each i in
        let one = in_span f p (slice_index table ship) (joint f ship spans) (sails_fit f (joint f ship spans) sails) sits i in
        omega (arith, terms_of-push f p spans (joint f ship spans), none, one, sails.one)
    added (inr n) =
        let none = not_in_span f p (slice_index table ship) (joint f ship spans) (sails_fit f (joint f ship spans) sails) sits n in
        omega (arith, terms_of-push f p spans (joint f ship spans), none, le)

pub grown_holds : (f : Problem) (p : Point) (table : List ℕ) (spans : List Span) (ship count : ℕ) → Seated f p table → Clear f table → ship + count ≤ f.ships → All (Sails f) spans → total p (terms_of f spans) ≤ 1 → total p (terms_of f (grown_from f spans ship count)) ≤ 1
grown_holds f p table spans ship zero seated clear few each le = le
grown_holds f p table spans ship (suc more) seated clear few each le =
    grown_holds f p table (with_ship f spans ship) (ship + 1) more seated clear (omega (arith, few))
    (with_ship_sails f spans ship (omega (arith, few)) each)
    (with_ship_holds f p table spans ship seated clear (omega (arith, few)) each le)

-- a group has the spans that it began with
pub grown_more : (f : Problem) (p : Point) (spans : List Span) (ship count : ℕ) → total p (terms_of f spans) ≤ total p (terms_of f (grown_from f spans ship count))
grown_more f p spans ship zero = omega arith
grown_more f p spans ship (suc more) =
    let step : total p (terms_of f spans) ≤ total p (terms_of f (with_ship f spans ship)) =
    either_way (λ (xs : List Span). total p (terms_of f spans) ≤ total p (terms_of f xs)) f spans ship (omega arith) (omega (arith, terms_of-push f p spans (joint f ship spans))) in
    omega (arith, step, grown_more f p (with_ship f spans ship) (ship + 1) more)
