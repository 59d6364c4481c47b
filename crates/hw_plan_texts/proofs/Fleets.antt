-- Problems with fewer tugs: their limits, and what is the same.
use Rattle.std.proofs.Common.{◌≡◌, ℕ, ◌+◌, ◌-◌, ◌<◌, List, [], ◌∷◌, map, length, get_or, refl, ap, ◌∙◌, arith}
use Rattle.std.proofs.lemmas.List.{length-map, get_or-map}
use Rattle.std.proofs.lemmas.List.Elements.{All-map, All-weaker}
use Rattle.hw_model.specs.declared.rule.Rule.{Rule}
use Rattle.hw_model.specs.declared.rule.Rule.TheVariants.{Pair, After, Tugs}
use Rattle.hw_model.specs.declared.rule.Step.{Step}
use Rattle.hw_model.specs.Limits.{IsFlat, RuleFits, StepFits, StepsSail}
use Rattle.hw_model.specs.Problem.{Problem, horizon, value_at}
use Rattle.hw_model.specs.Timetables.{cargo_from, plus}
use Rattle.hw_plan_texts.specs.Fleets.{lessened_step, lessened_rule, lessened}

-- ---- limits

step_fits : (withdrawn : ℕ) (step : Step) → StepFits step → StepFits (lessened_step withdrawn step)
step_fits withdrawn step fits = record { later_slot = fits.later_slot; small_fleet = omega (arith, fits.small_fleet) }

step_from : (withdrawn : ℕ) (later : List Step) (i : ℕ) (d : Step) → i < length later → (get_or (map (lessened_step withdrawn) later) i d).from ≡ (get_or later i d).from
step_from withdrawn later i d lt = ap (λ (s : Step). s.from) (get_or-map (lessened_step withdrawn) later i d d lt)

pub rule_fits : (ships withdrawn : ℕ) (rule : Rule) → RuleFits ships rule → RuleFits ships (lessened_rule withdrawn rule)
rule_fits ships withdrawn (Pair v w holes) fits = fits
rule_fits ships withdrawn (After v w gap) fits = fits
rule_fits ships withdrawn (Tugs fleet later jobs) fits = record {
  small_fleet = omega (arith, fits.small_fleet);
  each_step = All-map StepFits (lessened_step withdrawn) later (All-weaker StepFits (λ step. StepFits (lessened_step withdrawn step)) (step_fits withdrawn) later fits.each_step);
  steps_ascend = λ i j d lt in'.
      let within : j < length later = omega (arith, in', length-map later (lessened_step withdrawn)) in
      omega (arith, fits.steps_ascend i j d lt within, step_from withdrawn later i d (omega (arith, lt, within)), step_from withdrawn later j d within);
  some_job = fits.some_job;
  few_jobs = fits.few_jobs;
  each_job = fits.each_job;
  ascends = fits.ascends;
}

pub steps_sail : (sailing withdrawn : ℕ) (rule : Rule) → StepsSail sailing rule → StepsSail sailing (lessened_rule withdrawn rule)
steps_sail sailing withdrawn (Pair v w holes) h = h
steps_sail sailing withdrawn (After v w gap) h = h
steps_sail sailing withdrawn (Tugs fleet later jobs) h = All-map (λ (step : Step). step.from < sailing) (lessened_step withdrawn) later h

pub lessened_fits : (f : Problem) (withdrawn : ℕ) → IsFlat f → IsFlat (lessened withdrawn f)
lessened_fits f withdrawn flat = record {
  some_ship = flat.some_ship;
  few_ships = flat.few_ships;
  some_slot = flat.some_slot;
  few_slots = flat.few_slots;
  each_value = flat.each_value;
  last_value = flat.last_value;
  small_values = flat.small_values;
  few_rules = omega (arith, length-map f.rules (lessened_rule withdrawn), flat.few_rules);
  each_rule = All-map (RuleFits f.ships) (lessened_rule withdrawn) f.rules (All-weaker (RuleFits f.ships) (λ rule. RuleFits f.ships (lessened_rule withdrawn rule)) (rule_fits f.ships withdrawn) f.rules flat.each_rule);
  steps_sail = All-map (StepsSail (horizon f)) (lessened_rule withdrawn) f.rules (All-weaker (StepsSail (horizon f)) (λ rule. StepsSail (horizon f) (lessened_rule withdrawn rule)) (steps_sail (horizon f) withdrawn) f.rules flat.steps_sail);
}

-- ---- with no tug fewer

same_steps : (later : List Step) → map (lessened_step 0) later ≡ later
same_steps [] = refl
same_steps (step ∷ later) =
    let e : step.fleet - 0 ≡ step.fleet = omega arith in
    ap (λ n. record { from = step.from; fleet = n } ∷ map (lessened_step 0) later) e ∙ ap (λ steps. step ∷ steps) (same_steps later)

same_rule : (rule : Rule) → lessened_rule 0 rule ≡ rule
same_rule (Pair v w holes) = refl
same_rule (After v w gap) = refl
same_rule (Tugs fleet later jobs) = let e : fleet - 0 ≡ fleet = omega arith in ap (λ n. Tugs n (map (lessened_step 0) later) jobs) e ∙ ap (λ steps. Tugs fleet steps jobs) (same_steps later)

same_rules : (rules : List Rule) → map (lessened_rule 0) rules ≡ rules
same_rules [] = refl
same_rules (rule ∷ rules) = ap (λ r. r ∷ map (lessened_rule 0) rules) (same_rule rule) ∙ ap (λ rs. rule ∷ rs) (same_rules rules)

pub with_rules : Problem → List Rule → Problem
with_rules f rules = record { ships = f.ships; slots = f.slots; stay = f.stay; values = f.values; rules = rules }

pub same_problem : (f : Problem) → lessened 0 f ≡ f
unfolding with_rules
same_problem f = ap (with_rules f) (same_rules f.rules)

-- ---- cargo

pub lessened_cargo : (withdrawn : ℕ) (f : Problem) (ship : ℕ) (slots : List ℕ) → cargo_from (lessened withdrawn f) ship slots ≡ cargo_from f ship slots
lessened_cargo withdrawn f ship [] = refl
lessened_cargo withdrawn f ship (slot ∷ slots) = ap (plus (value_at f ship slot)) (lessened_cargo withdrawn f (ship + 1) slots)
