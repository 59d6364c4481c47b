-- The rows of a rule are satisfied exactly where it holds.
use Rattle.std.proofs.Common.{◌≡◌, ℕ, zero, suc, ◌+◌, ◌-◌, ◌<◌, ◌≤◌, min, pos, ◌≤ℤ◌, Bool, true, false, cond, not, ◌&&◌, ◌||◌, nat_le, nat_lt, List, [], ◌∷◌, slice_get, slice_index, slice_index_or, sum_by, IfSome, IsTrue, All, refl, sym, ◌∙◌, ap, arith, inl, inr}
use Rattle.std.specs.Prelude.{◌-ℤ◌, ◌⊎◌}
use Rattle.std.specs.List.{list_all}
use Rattle.std.proofs.lemmas.Bool.{and_parts, and_from, and_left, and_right, or_cases, or_left, or_right, both_ways, cases_Bool, cases_lt, leb-true, le-leb, lt-leb, lt-ltb, le-ltb, not_from_false}
use Rattle.std.proofs.lemmas.List.Elements.{All-cons, All-head, All-map, All-nil, All-tail}
use Rattle.std.proofs.lemmas.List.Sums.{sum_by-cons}
use Rattle.hw_model.specs.declared.rule.Hole.{Hole}
use Rattle.hw_model.specs.declared.rule.Job.{Job}
use Rattle.hw_model.specs.declared.rule.Rule.{Rule}
use Rattle.hw_model.specs.declared.rule.Rule.TheVariants.{Pair, After, Tugs}
use Rattle.hw_model.specs.declared.rule.Step.{Step}
use Rattle.hw_model.specs.Limits.{HoleFits, JobFits, RuleFits}
use Rattle.hw_model.specs.Problem.{Problem, horizon, stays}
use Rattle.hw_model.specs.Rules.{misses, pair_holds, held_by, fleet_in, rule_holds}
use Rattle.hw_model_laws.proofs.Counting.{all_of_range, range_all}
use Rattle.hw_model_laws.proofs.Horizon.{horizon_le}
use Rattle.hw_flat_programme.specs.declared.span.Span.{Span}
use Rattle.hw_flat_programme.specs.Programmes.{Point, total, SatisfiesRows}
use Rattle.hw_flat_programme.specs.Rows.{SpanFits, span_terms, terms_of, first_window, partner, window_spans, group_spans, window_rows, hole_rows, width, after_spans, job_span, job_spans, rule_rows, rules_rows}
use Rattle.hw_flat_programme.proofs.Sums.{total-append, satisfies-append, satisfies_parts, rows_hold, rows_give}
use Rattle.hw_flat_programme.proofs.Sits.{IsIn, in_span, not_in_span, in_or_not, AreTwo, two_hold, two_apart}
use Rattle.hw_flat_programme.proofs.Holes.{partner_in_hole, IsFound, find_window}
use Rattle.hw_flat_programme.proofs.Grouped.{Seated, Clear, Sails, grown_holds, grown_more}

-- ---- pairs

first_fits : (f : Problem) (v : ℕ) (hole : Hole) (last : ℕ) → v < f.ships → SpanFits f (first_window f v hole last)
first_fits f v hole last lt = record { ship_in = lt; slots_in = omega (arith, horizon_le f); small = omega arith }

partner_fits : (f : Problem) (w : ℕ) (hole : Hole) (first : Span) → w < f.ships → SpanFits f (partner f w hole first)
partner_fits f w hole first lt = record { ship_in = lt; slots_in = omega (arith, horizon_le f); small = omega arith }

window_two : (f : Problem) (p : Point) (table : List ℕ) (v w : ℕ) (hole : Hole) (last : ℕ) → Seated f p table → v < f.ships → w < f.ships → AreTwo f p (slice_index table v) (slice_index table w) (first_window f v hole last) (partner f w hole (first_window f v hole last))
window_two f p table v w hole last seated a b = record {
  first_fits = first_fits f v hole last a;
  second_fits = partner_fits f w hole (first_window f v hole last) b;
  first_sits = seated v a;
  second_sits = seated w b;
  first_one = refl;
  second_one = refl;
}

window_sails : (f : Problem) (v w : ℕ) (hole : Hole) (last : ℕ) → v < f.ships → w < f.ships → All (Sails f) (window_spans f v w hole last)
window_sails f v w hole last a b =
    All-cons (Sails f) (first_window f v hole last) (partner f w hole (first_window f v hole last) ∷ []) (record { ship_in = a; slots_in = omega arith; one = refl })
    (All-cons (Sails f) (partner f w hole (first_window f v hole last)) [] (record { ship_in = b; slots_in = omega arith; one = refl }) (All-nil (Sails f)))

hole_satisfied : (f : Problem) (p : Point) (table : List ℕ) (v w : ℕ) (hole : Hole) → Seated f p table → Clear f table → v < f.ships → w < f.ships
    → ((slice_index table v < horizon f) → (slice_index table w < horizon f) → misses (pos (slice_index table w) -ℤ pos (slice_index table v)) hole ≡ true) → SatisfiesRows p (window_rows f v w hole)
hole_satisfied f p table v w hole seated clear a b holds =
    rows_hold f p (λ k. 1) (group_spans f v w hole) 0 (horizon f + width hole - 1)
    (λ last le lt. grown_holds f p table (window_spans f v w hole last) 0 f.ships seated clear (omega arith) (window_sails f v w hole last a b)
    (two_hold f p (slice_index table v) (slice_index table w) (first_window f v hole last) (partner f w hole (first_window f v hole last)) (window_two f p table v w hole last seated a b)
    (λ i j. both_ways _ (partner_in_hole f w hole (first_window f v hole last) (slice_index table v) (slice_index table w) i j) (holds (omega (arith, i.1)) (omega (arith, j.1))))))

hole_kept : (f : Problem) (p : Point) (table : List ℕ) (v w : ℕ) (hole : Hole) → Seated f p table → v < f.ships → w < f.ships → hole.lo ≤ℤ hole.hi
    → slice_index table v < horizon f → slice_index table w < horizon f → SatisfiesRows p (window_rows f v w hole) → misses (pos (slice_index table w) -ℤ pos (slice_index table v)) hole ≡ true
hole_kept f p table v w hole seated a b ordered x_in y_in satisfied = by (cases_Bool (misses (pos (slice_index table w) -ℤ pos (slice_index table v)) hole))
  where
    against : IsFound f v w hole (slice_index table v) (slice_index table w) → ⊥
    against found = two_apart f p (slice_index table v) (slice_index table w) (first_window f v hole found.last) (partner f w hole (first_window f v hole found.last)) (window_two f p table v w hole found.last seated a b)
        (omega (arith, grown_more f p (window_spans f v w hole found.last) 0 f.ships, rows_give f p (λ k. 1) (group_spans f v w hole) 0 (horizon f + width hole - 1) satisfied found.last (omega arith) (omega (arith, found.few)))) found.first found.second

    by : (misses (pos (slice_index table w) -ℤ pos (slice_index table v)) hole ≡ true) ⊎ (misses (pos (slice_index table w) -ℤ pos (slice_index table v)) hole ≡ false) → misses (pos (slice_index table w) -ℤ pos (slice_index table v)) hole ≡ true
    by (inl e) = e
    by (inr e) = absurd (against (find_window f v w hole (slice_index table v) (slice_index table w) x_in y_in ordered e))

holes_satisfied : (f : Problem) (p : Point) (table : List ℕ) (v w : ℕ) (holes : List Hole) → Seated f p table → Clear f table → v < f.ships → w < f.ships
    → ((slice_index table v < horizon f) → (slice_index table w < horizon f) → list_all (misses (pos (slice_index table w) -ℤ pos (slice_index table v))) holes ≡ true) → SatisfiesRows p (hole_rows f v w holes)
holes_satisfied f p table v w [] seated clear a b holds = tt
holes_satisfied f p table v w (hole ∷ holes) seated clear a b holds =
    satisfies-append p (window_rows f v w hole) (hole_rows f v w holes)
    (hole_satisfied f p table v w hole seated clear a b (λ x_in y_in. (and_parts _ _ (holds x_in y_in)).0))
    (holes_satisfied f p table v w holes seated clear a b (λ x_in y_in. (and_parts _ _ (holds x_in y_in)).1))

holes_kept : (f : Problem) (p : Point) (table : List ℕ) (v w : ℕ) (holes : List Hole) → Seated f p table → v < f.ships → w < f.ships → All HoleFits holes
    → slice_index table v < horizon f → slice_index table w < horizon f → SatisfiesRows p (hole_rows f v w holes) → list_all (misses (pos (slice_index table w) -ℤ pos (slice_index table v))) holes ≡ true
holes_kept f p table v w [] seated a b fit x_in y_in satisfied = refl
holes_kept f p table v w (hole ∷ holes) seated a b fit x_in y_in satisfied =
    let parts = satisfies_parts p (window_rows f v w hole) (hole_rows f v w holes) satisfied in
    let here : HoleFits hole = All-head HoleFits hole holes fit in
    and_from _ _ (hole_kept f p table v w hole seated a b here.ordered x_in y_in parts.0) (holes_kept f p table v w holes seated a b (All-tail HoleFits hole holes fit) x_in y_in parts.1)

-- ---- precedences

-- the slots of the first ship of a precedence from one on, and those of the second that it keeps apart from them
abbrev late_span : Problem → ℕ → ℕ → Span
late_span f v slot = record { ship = v; from = slot; to = f.slots; weight = 1 }

abbrev early_span : Problem → ℕ → ℕ → ℕ → Span
early_span f w gap slot = record { ship = w; from = 0; to = min (horizon f) (slot + gap); weight = 1 }

after_two : (f : Problem) (p : Point) (table : List ℕ) (v w gap slot : ℕ) → Seated f p table → v < f.ships → w < f.ships → AreTwo f p (slice_index table v) (slice_index table w) (late_span f v slot) (early_span f w gap slot)
after_two f p table v w gap slot seated a b = record {
  first_fits = record { ship_in = a; slots_in = omega arith; small = omega arith };
  second_fits = record { ship_in = b; slots_in = omega (arith, horizon_le f); small = omega arith };
  first_sits = seated v a;
  second_sits = seated w b;
  first_one = refl;
  second_one = refl;
}

after_satisfied : (f : Problem) (p : Point) (table : List ℕ) (v w gap : ℕ) → Seated f p table → v < f.ships → w < f.ships → pair_holds f (After v w gap) (slice_index table v) (slice_index table w) ≡ true → SatisfiesRows p (rule_rows f (After v w gap))
after_satisfied f p table v w gap seated a b holds =
    rows_hold f p (λ k. 1) (after_spans f v w gap) 0 f.slots
    (λ slot le lt. two_hold f p (slice_index table v) (slice_index table w) (late_span f v slot) (early_span f w gap slot) (after_two f p table v w gap slot seated a b) (λ i j. apart (slice_index table v) (slice_index table w) slot i.0 j.1 holds))
  where
    apart : (x y slot : ℕ) → slot ≤ x → y < min (horizon f) (slot + gap) → (stays f y || (not (stays f x) && nat_le (x + gap) y)) ≡ true → ⊥
    apart x y slot le lt holds = by (or_cases (stays f y) (not (stays f x) && nat_le (x + gap) y) holds)
      where
        by : (stays f y ≡ true) ⊎ ((not (stays f x) && nat_le (x + gap) y) ≡ true) → ⊥
        by (inl e) = omega (arith, lt, leb-true (horizon f) y e)
        by (inr e) = omega (arith, lt, le, leb-true (x + gap) y (and_parts (not (stays f x)) (nat_le (x + gap) y) e).1)

after_kept : (f : Problem) (p : Point) (table : List ℕ) (v w gap : ℕ) → Seated f p table → v < f.ships → w < f.ships → SatisfiesRows p (rule_rows f (After v w gap)) → pair_holds f (After v w gap) (slice_index table v) (slice_index table w) ≡ true
after_kept f p table v w gap seated a b satisfied =
    let sits = seated v a in
    let x : ℕ = slice_index table v in
    let y : ℕ = slice_index table w in
    by x y (cases_lt y (horizon f)) (cases_lt y (x + gap))
    (λ one two. two_apart f p x y (late_span f v x) (early_span f w gap x) (after_two f p table v w gap x seated a b) (rows_give f p (λ k. 1) (after_spans f v w gap) 0 f.slots satisfied x (omega arith) (omega (arith, sits.slot_in))) (omega arith, sits.slot_in) (omega arith, omega (arith, one, two)))
  where
    by : (x y : ℕ) → (y < horizon f) ⊎ (horizon f ≤ y) → (y < x + gap) ⊎ (x + gap ≤ y) → (y < horizon f → y < x + gap → ⊥) → (stays f y || (not (stays f x) && nat_le (x + gap) y)) ≡ true
    by x y (inr past) either apart = or_left (stays f y) (not (stays f x) && nat_le (x + gap) y) (le-leb (horizon f) y past)
    by x y (inl lt) (inl early) apart = absurd (apart lt early)
    by x y (inl lt) (inr late) apart =
        let sailing : x < horizon f = omega (arith, lt, late) in
        or_right (stays f y) (not (stays f x) && nat_le (x + gap) y) (and_from (not (stays f x)) (nat_le (x + gap) y) (not_from_false (stays f x) (lt-leb (horizon f) x sailing)) (le-leb (x + gap) y late))

-- ---- tugs

job_fits : (f : Problem) (slot : ℕ) (job : Job) → JobFits f.ships job → slot < horizon f → SpanFits f (job_span slot job)
job_fits f slot job fits lt = record { ship_in = fits.ship_in; slots_in = omega (arith, lt, horizon_le f); small = fits.few_tugs }

pub jobs_fit : (f : Problem) (slot : ℕ) (jobs : List Job) → All (JobFits f.ships) jobs → slot < horizon f → All (SpanFits f) (job_spans jobs slot)
jobs_fit f slot jobs fit lt = All-map (SpanFits f) (job_span slot) jobs (λ i d in'. job_fits f slot (slice_index_or jobs i d) (fit i d in') lt)

job_total : (f : Problem) (p : Point) (table : List ℕ) (slot : ℕ) (job : Job) → Seated f p table → JobFits f.ships job → slot < horizon f → total p (span_terms f (job_span slot job)) ≡ held_by table slot job
job_total f p table slot job seated fits lt = by (in_or_not (slice_index table job.ship) (job_span slot job))
  where
    held : (x hold tugs : ℕ) → slot + 1 - hold ≤ x → x < slot + 1 → cond (nat_le x slot && nat_lt slot (x + hold)) tugs 0 ≡ tugs
    held x hold tugs le lt = ap (λ (b : Bool). cond b tugs 0) (and_from _ _ (le-leb x slot (omega (arith, lt))) (lt-ltb slot (x + hold) (omega (arith, le))))

    free : (x hold tugs : ℕ) → ((slot + 1 - hold ≤ x) × (x < slot + 1) → ⊥) → cond (nat_le x slot && nat_lt slot (x + hold)) tugs 0 ≡ 0
    free x hold tugs out = at (cases_lt slot x) (cases_lt slot (x + hold))
      where
        at : (slot < x) ⊎ (x ≤ slot) → (slot < x + hold) ⊎ (x + hold ≤ slot) → cond (nat_le x slot && nat_lt slot (x + hold)) tugs 0 ≡ 0
        at (inl later) either = ap (λ (b : Bool). cond b tugs 0) (and_left _ (nat_lt slot (x + hold)) (lt-leb x slot later))
        at (inr le) (inl lt) = absurd (out (omega (arith, lt), omega (arith, le)))
        at (inr le) (inr past) = ap (λ (b : Bool). cond b tugs 0) (and_right (nat_le x slot) _ (le-ltb slot (x + hold) past))

    by : IsIn (slice_index table job.ship) (job_span slot job) ⊎ (IsIn (slice_index table job.ship) (job_span slot job) → ⊥) → total p (span_terms f (job_span slot job)) ≡ held_by table slot job
    by (inl i) = in_span f p (slice_index table job.ship) (job_span slot job) (job_fits f slot job fits lt) (seated job.ship fits.ship_in) i ∙ sym (held (slice_index table job.ship) job.hold job.tugs i.0 i.1)
    by (inr n) = not_in_span f p (slice_index table job.ship) (job_span slot job) (job_fits f slot job fits lt) (seated job.ship fits.ship_in) n ∙ sym (free (slice_index table job.ship) job.hold job.tugs n)

jobs_total : (f : Problem) (p : Point) (table : List ℕ) (slot : ℕ) (jobs : List Job) → Seated f p table → All (JobFits f.ships) jobs → slot < horizon f → total p (terms_of f (job_spans jobs slot)) ≡ sum_by (held_by table slot) jobs
jobs_total f p table slot [] seated fit lt = refl
jobs_total f p table slot (job ∷ jobs) seated fit lt =
    let here = job_total f p table slot job seated (All-head (JobFits f.ships) job jobs fit) lt in
    let rest = jobs_total f p table slot jobs seated (All-tail (JobFits f.ships) job jobs fit) lt in
    omega (arith, total-append p (span_terms f (job_span slot job)) (terms_of f (job_spans jobs slot)), here, rest, sum_by-cons (held_by table slot) job jobs)

tugs_satisfied : (f : Problem) (p : Point) (table : List ℕ) (fleet : ℕ) (later : List Step) (jobs : List Job) → Seated f p table → All (JobFits f.ships) jobs → rule_holds f table (Tugs fleet later jobs) ≡ true → SatisfiesRows p (rule_rows f (Tugs fleet later jobs))
tugs_satisfied f p table fleet later jobs seated fit holds =
    rows_hold f p (fleet_in fleet later) (job_spans jobs) 0 (horizon f)
    (λ slot le lt. let few : sum_by (held_by table slot) jobs ≤ fleet_in fleet later slot = leb-true _ _ (all_of_range (λ slot. nat_le (sum_by (held_by table slot) jobs) (fleet_in fleet later slot)) 0 (horizon f) holds slot le lt) in
    omega (arith, few, jobs_total f p table slot jobs seated fit (omega (arith, lt))))

tugs_kept : (f : Problem) (p : Point) (table : List ℕ) (fleet : ℕ) (later : List Step) (jobs : List Job) → Seated f p table → All (JobFits f.ships) jobs → SatisfiesRows p (rule_rows f (Tugs fleet later jobs)) → rule_holds f table (Tugs fleet later jobs) ≡ true
tugs_kept f p table fleet later jobs seated fit satisfied =
    range_all (λ slot. nat_le (sum_by (held_by table slot) jobs) (fleet_in fleet later slot)) 0 (horizon f)
    (λ slot le lt. le-leb _ _ (omega (arith, rows_give f p (fleet_in fleet later) (job_spans jobs) 0 (horizon f) satisfied slot le lt, jobs_total f p table slot jobs seated fit (omega (arith, lt)))))

-- ---- rules

-- a pair that holds clears its holes where both ships sail
pub cleared : (f : Problem) (x y : ℕ) (c : Bool) → (stays f x || stays f y || c) ≡ true → x < horizon f → y < horizon f → c ≡ true
cleared f x y c holds x_in y_in = by (or_cases _ c holds)
  where
    neither : (stays f x ≡ true) ⊎ (stays f y ≡ true) → ⊥
    neither (inl e) = omega (arith, x_in, leb-true _ _ e)
    neither (inr e) = omega (arith, y_in, leb-true _ _ e)

    by : ((stays f x || stays f y) ≡ true) ⊎ (c ≡ true) → c ≡ true
    by (inl e) = absurd (neither (or_cases (stays f x) (stays f y) e))
    by (inr e) = e

clears : (f : Problem) (x y : ℕ) (c : Bool) → (x < horizon f → y < horizon f → c ≡ true) → (stays f x || stays f y || c) ≡ true
clears f x y c h = by (cases_lt x (horizon f)) (cases_lt y (horizon f))
  where
    by : (x < horizon f) ⊎ (horizon f ≤ x) → (y < horizon f) ⊎ (horizon f ≤ y) → (stays f x || stays f y || c) ≡ true
    by (inr past) either = or_left (stays f x || stays f y) c (or_left (stays f x) (stays f y) (le-leb _ _ past))
    by (inl lt) (inr past) = or_left (stays f x || stays f y) c (or_right (stays f x) (stays f y) (le-leb _ _ past))
    by (inl lt) (inl lt') = or_right (stays f x || stays f y) c (h lt lt')

rule_satisfied : (f : Problem) (p : Point) (table : List ℕ) (rule : Rule) → Seated f p table → Clear f table → RuleFits f.ships rule → rule_holds f table rule ≡ true → SatisfiesRows p (rule_rows f rule)
rule_satisfied f p table (Pair v w holes) seated clear fits holds = holes_satisfied f p table v w holes seated clear (omega (arith, fits.ascends, fits.ship_in)) fits.ship_in (λ x_in y_in. cleared f (slice_index table v) (slice_index table w) _ holds x_in y_in)
rule_satisfied f p table (After v w gap) seated clear fits holds = after_satisfied f p table v w gap seated fits.first_in fits.second_in holds
rule_satisfied f p table (Tugs fleet later jobs) seated clear fits holds = tugs_satisfied f p table fleet later jobs seated fits.each_job holds

rule_kept : (f : Problem) (p : Point) (table : List ℕ) (rule : Rule) → Seated f p table → RuleFits f.ships rule → SatisfiesRows p (rule_rows f rule) → rule_holds f table rule ≡ true
rule_kept f p table (Pair v w holes) seated fits satisfied = clears f (slice_index table v) (slice_index table w) (list_all (misses (pos (slice_index table w) -ℤ pos (slice_index table v))) holes) (λ x_in y_in. holes_kept f p table v w holes seated (omega (arith, fits.ascends, fits.ship_in)) fits.ship_in fits.each_hole x_in y_in satisfied)
rule_kept f p table (After v w gap) seated fits satisfied = after_kept f p table v w gap seated fits.first_in fits.second_in satisfied
rule_kept f p table (Tugs fleet later jobs) seated fits satisfied = tugs_kept f p table fleet later jobs seated fits.each_job satisfied

pub rules_satisfied : (f : Problem) (p : Point) (table : List ℕ) (rules : List Rule) → Seated f p table → Clear f table → All (RuleFits f.ships) rules → ((place : ℕ) → IfSome (slice_get rules place) (λ rule. IsTrue (rule_holds f table rule))) → SatisfiesRows p (rules_rows f rules)
rules_satisfied f p table [] seated clear fit keeps = tt
rules_satisfied f p table (rule ∷ rules) seated clear fit keeps =
    satisfies-append p (rule_rows f rule) (rules_rows f rules)
    (rule_satisfied f p table rule seated clear (All-head (RuleFits f.ships) rule rules fit) (keeps 0))
    (rules_satisfied f p table rules seated clear (All-tail (RuleFits f.ships) rule rules fit) (λ place. keeps (suc place)))

pub rules_kept : (f : Problem) (p : Point) (table : List ℕ) (rules : List Rule) → Seated f p table → All (RuleFits f.ships) rules → SatisfiesRows p (rules_rows f rules) → (place : ℕ) → IfSome (slice_get rules place) (λ rule. IsTrue (rule_holds f table rule))
rules_kept f p table [] seated fit satisfied place = tt
rules_kept f p table (rule ∷ rules) seated fit satisfied zero =
    rule_kept f p table rule seated (All-head (RuleFits f.ships) rule rules fit) (satisfies_parts p (rule_rows f rule) (rules_rows f rules) satisfied).0
rules_kept f p table (rule ∷ rules) seated fit satisfied (suc place) =
    rules_kept f p table rules seated (All-tail (RuleFits f.ships) rule rules fit) (satisfies_parts p (rule_rows f rule) (rules_rows f rules) satisfied).1 place
