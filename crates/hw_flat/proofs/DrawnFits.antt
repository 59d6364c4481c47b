-- What is drawn keeps the limits of a flat problem.
use Rattle.std.proofs.Common.{◌≡◌, ℕ, zero, suc, ◌+◌, ◌-◌, ◌*◌, ◌<◌, ◌≤◌, pos, neg_ℤ, Bool, true, false, cond, ◌==◌, refl, List, [], ◌∷◌, length, All, AllPairs, Option, Some, None, unwrap_or, length-append, sym, ap, ◌∙◌, subst, arith}
use Rattle.std.proofs.lemmas.Int.{ints}
use Rattle.std.proofs.Math.Nat.{mul-le-mul_left}
use Rattle.std.specs.List.{range_with_len}
use Rattle.std.proofs.lemmas.List.Elements.{All-append, All-nil, All-cons}
use Rattle.std.proofs.lemmas.List.Kept.{AllPairs-cons}
use Rattle.rand_pcg.specs.Lcg.{Lcg}
use Rattle.hw_model.specs.declared.rule.Hole.{Hole}
use Rattle.hw_model.specs.declared.rule.Job.{Job}
use Rattle.hw_model.specs.declared.rule.Rule.{Rule}
use Rattle.hw_model.specs.declared.rule.Rule.TheVariants.{Pair, Tugs}
use Rattle.hw_model.specs.declared.rule.Step.{Step}
use Rattle.hw_model.specs.Limits.{HoleFits, JobFits, PairFits, TugsFit, RuleFits, StepFits, StepsSail, IsFlat}
use Rattle.hw_flat.specs.Demonstration.{draw, in_turn, from_to, rise, value_drawn, row_drawn, values_drawn, pair_drawn, pairs_of_drawn, pairs_drawn, job_drawn, jobs_drawn, rules_drawn, drawn_from}

-- ---- items in turn

draw_below : (n : ℕ) (g : Lcg) → 0 < n → (draw n g).0 < n
unfolding draw
draw_below n g some = omega arith

-- numbers from least up to end
each_within : {B : Type 0} (P : B → Type 0) (make : ℕ → Lcg → List B × Lcg) (least end : ℕ) → ((k : ℕ) (g : Lcg) → least ≤ k → k < end → All P (make k g).0) → (first n : ℕ) (g : Lcg) → least ≤ first → first + n ≤ end → All P (in_turn make (range_with_len first n) g).0
each_within P make least end each first zero g from le = All-nil P
each_within P make least end each first (suc n) g from le =
    All-append P (make first g).0 (in_turn make (range_with_len (first + 1) n) (make first g).1).0 (each first g from (omega arith)) (each_within P make least end each (first + 1) n (make first g).1 (omega arith) (omega arith))

-- numbers from 0 up to end
each_drawn : {B : Type 0} (P : B → Type 0) (make : ℕ → Lcg → List B × Lcg) (end : ℕ) → ((k : ℕ) (g : Lcg) → k < end → All P (make k g).0) → (g : Lcg) → All P (in_turn make (from_to 0 end) g).0
each_drawn P make end each g = each_within P make 0 end (λ k h from lt. each k h lt) 0 (end - 0) g (omega arith) (omega arith)

-- n draws of exactly `size` items each
length_drawn : {B : Type 0} (make : ℕ → Lcg → List B × Lcg) (size : ℕ) → ((k : ℕ) (g : Lcg) → length (make k g).0 ≡ size) → (first n : ℕ) (g : Lcg) → length (in_turn make (range_with_len first n) g).0 ≡ n * size
length_drawn make size each first zero g = omega arith
length_drawn make size each first (suc n) g =
    let more = length_drawn make size each (first + 1) n (make first g).1 in
    let both = length-append (make first g).0 (in_turn make (range_with_len (first + 1) n) (make first g).1).0 in
    let one = each first g in
    omega arith

-- n draws of at most `size` items each
few_drawn : {B : Type 0} (make : ℕ → Lcg → List B × Lcg) (size : ℕ) → ((k : ℕ) (g : Lcg) → length (make k g).0 ≤ size) → (first n : ℕ) (g : Lcg) → length (in_turn make (range_with_len first n) g).0 ≤ n * size
few_drawn make size each first zero g = omega arith
few_drawn make size each first (suc n) g =
    let more = few_drawn make size each (first + 1) n (make first g).1 in
    let both = length-append (make first g).0 (in_turn make (range_with_len (first + 1) n) (make first g).1).0 in
    let one = each first g in
    omega arith

-- ---- values

abbrev SmallValue : Option ℕ → Type 0
SmallValue v = unwrap_or v 0 ≤ 1_000_000_000_000

product_small : (a b : ℕ) → a ≤ 100 → b ≤ 60 → a * b ≤ 1_000_000_000_000
product_small a b la lb =
    let one = mul-le-mul_left a lb in
    omega (arith, one)

small_value : (none : Bool) (tpc slot : ℕ) → tpc < 100 → SmallValue (cond none None (Some (tpc * (10 + rise slot))))
small_value true tpc slot lt = omega arith
small_value false tpc slot lt =
    let few : rise slot ≤ 50 = omega arith in
    product_small tpc (10 + rise slot) (omega arith) (omega arith)

values_small : (ships slots : ℕ) (g : Lcg) → All SmallValue (values_drawn ships slots g).0
values_small ships slots g =
    each_drawn SmallValue (row_drawn slots) ships
    (λ ship h lt. each_drawn SmallValue (value_drawn (50 + (draw 50 h).0)) slots
    (λ slot i under. All-cons SmallValue _ [] (small_value ((draw 20 i).0 == 0) (50 + (draw 50 h).0) slot (omega (arith, draw_below 50 h (omega arith)))) (All-nil SmallValue))
    (draw 50 h).1)
    g

values_counted : (ships slots : ℕ) (g : Lcg) → length (values_drawn ships slots g).0 ≡ ships * slots
values_counted ships slots g =
    length_drawn (row_drawn slots) slots
    (λ ship h. length_drawn (value_drawn (50 + (draw 50 h).0)) 1 (λ slot i. refl) 0 (slots - 0) (draw 50 h).1 ∙ omega arith)
    0 (ships - 0) g ∙ ap (λ n. n * slots) (omega arith)

-- ---- rules

hole_fits : (a b : ℕ) → a < 3 → b < 3 → HoleFits (record { lo = neg_ℤ (pos (1 + a)); hi = pos (1 + b) })
hole_fits a b la lb = record { from_least = omega (arith, ints); ordered = omega (arith, ints); to_most = omega (arith, ints) }

-- a rule within the limits, with its steps in the slots
abbrev RuleMade : ℕ → ℕ → Rule → Type 0
RuleMade ships slots rule = RuleFits ships rule × StepsSail slots rule

pair_fits : (ships slots v w : ℕ) (g : Lcg) → v < w → w < ships → All (RuleMade ships slots) (pair_drawn v w g).0
pair_fits ships slots v w g lt le =
    let before = draw 3 g in
    let after = draw 3 before.1 in
    let hole : Hole = record { lo = neg_ℤ (pos (1 + before.0)); hi = pos (1 + after.0) } in
    let fits : PairFits ships v w (hole ∷ []) = record {
      ascends = lt;
      ship_in = le;
      some_hole = omega arith;
      few_holes = omega arith;
      each_hole = All-cons HoleFits hole [] (hole_fits before.0 after.0 (draw_below 3 g (omega arith)) (draw_below 3 before.1 (omega arith))) (All-nil HoleFits);
    } in
    All-cons (RuleMade ships slots) (Pair v w (hole ∷ [])) [] (fits, tt) (All-nil (RuleMade ships slots))

after_fits : (ships slots v : ℕ) (g : Lcg) → v < ships → All (RuleMade ships slots) (pairs_of_drawn ships v g).0
after_fits ships slots v g lt = each_within (RuleMade ships slots) (pair_drawn v) (v + 1) ships (λ w h from le. pair_fits ships slots v w h (omega arith) le) (v + 1) (ships - (v + 1)) g (omega arith) (omega arith)

pairs_fit : (ships slots : ℕ) (g : Lcg) → All (RuleMade ships slots) (pairs_drawn ships g).0
pairs_fit ships slots g =
    each_drawn (RuleMade ships slots) (pairs_of_drawn ships) ships
    (λ v h lt. after_fits ships slots v h lt)
    g

pairs_few : (ships : ℕ) (g : Lcg) → ships ≤ 40 → length (pairs_drawn ships g).0 ≤ 1_600
pairs_few ships g few =
    let all = few_drawn (pairs_of_drawn ships) ships
    (λ v h. let one = length_drawn (pair_drawn v) 1 (λ w i. refl) (v + 1) (ships - (v + 1)) h in omega arith)
    0 (ships - 0) g in
    let most = mul-le-mul_left (ships - 0) few in
    omega (arith, most)

-- ---- jobs

job_fits : (ships ship : ℕ) (g : Lcg) → ship < ships → All (JobFits ships) (job_drawn ship g).0
job_fits ships ship g lt =
    let tugs = draw 2 g in
    let hold = draw 4 tugs.1 in
    let job : Job = record { ship = ship; tugs = 1 + tugs.0; hold = 2 + hold.0 } in
    let two = draw_below 2 g (omega arith) in
    let four = draw_below 4 tugs.1 (omega arith) in
    let fits : JobFits ships job = record { ship_in = lt; some_tugs = omega arith; few_tugs = omega arith; some_hold = omega arith; short_hold = omega arith } in
    All-cons (JobFits ships) job [] fits (All-nil (JobFits ships))

abbrev job_at : ℕ → Lcg → Job
job_at ship g = record { ship = ship; tugs = 1 + (draw 2 g).0; hold = 2 + (draw 4 (draw 2 g).1).0 }

-- jobs from first on are of ships after an earlier one
jobs_later : (ship first n : ℕ) (g : Lcg) → ship < first → All (λ job. ship < job.ship) (in_turn job_drawn (range_with_len first n) g).0
jobs_later ship first zero g lt = All-nil (λ (job : Job). ship < job.ship)
jobs_later ship first (suc n) g lt =
    All-cons (λ (job : Job). ship < job.ship) _ _ lt (jobs_later ship (first + 1) n (job_drawn first g).1 (omega arith))

jobs_ascend : (first n : ℕ) (g : Lcg) → AllPairs (λ a b. a.ship < b.ship) (in_turn job_drawn (range_with_len first n) g).0
jobs_ascend first zero g = λ i j d lt le. absurd (omega arith)
jobs_ascend first (suc n) g =
    AllPairs-cons (λ (a b : Job). a.ship < b.ship) (job_at first g) _ (jobs_later first (first + 1) n (job_drawn first g).1 (omega arith)) (jobs_ascend (first + 1) n (job_drawn first g).1)

tugs_fit : (ships : ℕ) (g : Lcg) → 1 ≤ ships → ships ≤ 40 → TugsFit ships 4 [] (jobs_drawn ships g).0
tugs_fit ships g some few =
    let all = length_drawn job_drawn 1 (λ ship h. refl) 0 (ships - 0) g in
    record {
      small_fleet = omega arith;
      each_step = All-nil StepFits;
      steps_ascend = λ i j d lt within. absurd (omega (arith, within));
      some_job = omega arith;
      few_jobs = omega arith;
      each_job = each_drawn (JobFits ships) job_drawn ships (job_fits ships) g;
      ascends = jobs_ascend 0 (ships - 0) g;
    }

-- ---- the problem

rules_fit : (ships slots : ℕ) (g : Lcg) → 1 ≤ ships → ships ≤ 40 → All (RuleMade ships slots) (rules_drawn ships g)
rules_fit ships slots g some few =
    let jobs = jobs_drawn ships (pairs_drawn ships g).1 in
    All-append (RuleMade ships slots) (pairs_drawn ships g).0 (Tugs 4 [] jobs.0 ∷ []) (pairs_fit ships slots g)
    (All-cons (RuleMade ships slots) (Tugs 4 [] jobs.0) [] (tugs_fit ships (pairs_drawn ships g).1 some few, All-nil (λ (step : Step). step.from < slots)) (All-nil (RuleMade ships slots)))

rules_few : (ships : ℕ) (g : Lcg) → ships ≤ 40 → length (rules_drawn ships g) ≤ 4_000
rules_few ships g few =
    let both = length-append (pairs_drawn ships g).0 (Tugs 4 [] (jobs_drawn ships (pairs_drawn ships g).1).0 ∷ []) in
    let pairs = pairs_few ships g few in
    omega arith

drawn_fits : (g : Lcg) (ships slots : ℕ) → 1 ≤ ships → ships ≤ 40 → 1 ≤ slots → slots ≤ 512 → IsFlat (drawn_from g ships slots)
drawn_fits g ships slots some_ship few_ships some_slot few_slots = record {
  some_ship = some_ship;
  few_ships = few_ships;
  some_slot = some_slot;
  few_slots = few_slots;
  each_value = values_counted ships slots g;
  last_value = λ ship lt may. cc;
  small_values = values_small ships slots g;
  few_rules = rules_few ships (values_drawn ships slots g).1 few_ships;
  each_rule = λ k d lt. (rules_fit ships slots (values_drawn ships slots g).1 some_ship few_ships k d lt).0;
  steps_sail = λ k d lt. (rules_fit ships slots (values_drawn ships slots g).1 some_ship few_ships k d lt).1;
}

-- a problem of what was drawn
pub made_fits : (g after : Lcg) (ships slots : ℕ) (values : List (Option ℕ)) (rules : List Rule) → 1 ≤ ships → ships ≤ 40 → 1 ≤ slots → slots ≤ 512 → (values, after) ≡ values_drawn ships slots g → rules ≡ rules_drawn ships after
    → IsFlat (record { ships = ships; slots = slots; stay = false; values = values; rules = rules })
made_fits g after ships slots values rules some_ship few_ships some_slot few_slots drawn then_drawn =
    let a : values ≡ (values_drawn ships slots g).0 = ap (λ (x : List (Option ℕ) × Lcg). x.0) drawn in
    let b : after ≡ (values_drawn ships slots g).1 = ap (λ (x : List (Option ℕ) × Lcg). x.1) drawn in
    let d : rules ≡ rules_drawn ships (values_drawn ships slots g).1 = then_drawn ∙ ap (rules_drawn ships) b in
    let fits = drawn_fits g ships slots some_ship few_ships some_slot few_slots in
    record {
      some_ship = some_ship;
      few_ships = few_ships;
      some_slot = some_slot;
      few_slots = few_slots;
      each_value = ap length a ∙ fits.each_value;
      last_value = λ ship lt may. cc;
      small_values = subst (All SmallValue) (sym a) fits.small_values;
      few_rules = subst (λ (rs : List Rule). length rs ≤ 4_000) (sym d) fits.few_rules;
      each_rule = subst (All (RuleFits ships)) (sym d) fits.each_rule;
      steps_sail = subst (All (StepsSail slots)) (sym d) fits.steps_sail;
    }
