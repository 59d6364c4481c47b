-- What a timetable takes is the sum of what each ship takes in its slot.
use Rattle.std.proofs.Common.{◌≡◌, ◌≢◌, ℕ, zero, suc, ◌+◌, ◌-◌, ◌*◌, ◌<◌, Bool, true, false, cond, ◌&&◌, nat_eq, List, [], ◌∷◌, Option, Some, None, length, get_or, map, sum_by, IfSome, All, refl, ap, ◌∙◌, arith}
use Rattle.std.proofs.lemmas.Bool.{eq-eqb, ne_eqb}
use Rattle.std.proofs.lemmas.List.Elements.{All-nil, All-cons, All-head, All-tail}
use Rattle.hw_model.specs.declared.rule.Job.{Job}
use Rattle.hw_model.specs.declared.rule.Rule.{Rule}
use Rattle.hw_model.specs.declared.rule.Rule.TheVariants as rules
use Rattle.hw_model.specs.Problem.{Problem}
use Rattle.hw_model.specs.Limits.{IsFlat, RuleFits, JobFits}
use Rattle.hw_model_laws.proofs.Counting.{at_place}
use Rattle.hw_price_laws.specs.declared.tariff.Due.{Due}
use Rattle.hw_price_laws.specs.declared.toll.Block.{Block}
use Rattle.hw_price_laws.specs.declared.toll.Charge.{Charge}
use Rattle.hw_price_laws.specs.declared.toll.Toll.{Toll}
use Rattle.hw_price_laws.specs.declared.toll.Toll.TheVariants.{Narrows, Tugs}
use Rattle.hw_price_laws.specs.Tolls.{IsToll, BlockFits, charges, charged, rule_charges, block_charge, job_charge, job_charges, lies_in, rule_at, usage}
use Rattle.hw_price_laws.specs.Prices.{toll_at, usage_at, paid}
use Rattle.hw_price_laws.specs.Computed.{takes, takes_at, pays}
use Rattle.hw_price_laws.proofs.Sums.{over, over_zero, over_times, over_sum, sum_same}

-- ---- one charge

other_ship : (ship slot : ℕ) (charge : Charge) → charge.ship ≢ ship → takes ship slot charge ≡ 0
other_ship ship slot charge ne = by (nat_eq charge.ship ship) (ne_eqb charge.ship ship ne)
  where
    by : (b : Bool) → b ≡ false → cond (b && lies_in charge.low charge.high slot) charge.amount 0 ≡ 0
    by true e = absurd cc
    by false e = refl

own_ship : (ship slot : ℕ) (charge : Charge) → charge.ship ≡ ship → takes ship slot charge ≡ cond (lies_in charge.low charge.high slot) charge.amount 0
own_ship ship slot charge same = by (nat_eq charge.ship ship) (eq-eqb charge.ship ship same)
  where
    by : (b : Bool) → b ≡ true → cond (b && lies_in charge.low charge.high slot) charge.amount 0 ≡ cond (lies_in charge.low charge.high slot) charge.amount 0
    by true e = refl
    by false e = absurd cc

none_after : (charge : Charge) (ship : ℕ) (slots : List ℕ) → charge.ship < ship → over (λ s x. takes s x charge) ship slots ≡ 0
none_after charge ship [] lt = refl
none_after charge ship (slot ∷ slots) lt =
    omega (arith, other_ship ship slot charge (λ e. less charge.ship ship lt e), none_after charge (ship + 1) slots (omega (arith, lt)))
  where
    less : (a b : ℕ) → a < b → a ≡ b → ⊥
    less a b lt e = omega (arith, lt, e)

one_ship : (charge : Charge) (ship : ℕ) (slots : List ℕ) (place : ℕ) → charge.ship ≡ ship + place → place < length slots → over (λ s x. takes s x charge) ship slots ≡ cond (lies_in charge.low charge.high (get_or slots place 0)) charge.amount 0
one_ship charge ship [] place at lt = absurd (omega (arith, lt))
one_ship charge ship (slot ∷ slots) zero at lt =
    omega (arith, own_ship ship slot charge (omega (arith, at)), none_after charge (ship + 1) slots (omega (arith, at)))
one_ship charge ship (slot ∷ slots) (suc place) at lt =
    omega (arith, other_ship ship slot charge (λ e. less charge.ship ship place at e), one_ship charge (ship + 1) slots place (omega (arith, at)) (omega (arith, lt)))
  where
    less : (a b k : ℕ) → a ≡ b + suc k → a ≡ b → ⊥
    less a b k at e = omega (arith, at, e)

pub charged_over : (charge : Charge) (table : List ℕ) → charge.ship < length table → over (λ s x. takes s x charge) 0 table ≡ charged table charge
charged_over charge table lt = one_ship charge 0 table charge.ship (omega arith) lt

-- ---- one toll

-- the charge's ship is one of this many
abbrev pub IsOf : ℕ → Charge → Type 0
IsOf ships charge = charge.ship < ships

blocks_of : (f : Problem) (blocks : List Block) → All (BlockFits f) blocks → All (IsOf f.ships) (map block_charge blocks)
blocks_of f [] all = All-nil (IsOf f.ships)
blocks_of f (b ∷ bs) all =
    let here : BlockFits f b = All-head (BlockFits f) b bs all in
    All-cons (IsOf f.ships) (block_charge b) (map block_charge bs) here.ship_in (blocks_of f bs (All-tail (BlockFits f) b bs all))

jobs_of : (ships slot : ℕ) (weights : List ℕ) (jobs : List Job) → All (JobFits ships) jobs → All (IsOf ships) (job_charges slot weights jobs)
jobs_of ships slot [] jobs all = All-nil (IsOf ships)
jobs_of ships slot (w ∷ ws) [] all = All-nil (IsOf ships)
jobs_of ships slot (w ∷ ws) (j ∷ js) all =
    let here : JobFits ships j = All-head (JobFits ships) j js all in
    All-cons (IsOf ships) (job_charge slot w j) (job_charges slot ws js) here.ship_in (jobs_of ships slot ws js (All-tail (JobFits ships) j js all))

rule_of : (ships slot : ℕ) (weights : List ℕ) (o : Option Rule) → IfSome o (RuleFits ships) → All (IsOf ships) (rule_charges slot weights o)
rule_of ships slot weights None fits = All-nil (IsOf ships)
rule_of ships slot weights (Some (rules.Pair v w holes)) fits = All-nil (IsOf ships)
rule_of ships slot weights (Some (rules.After v w gap)) fits = All-nil (IsOf ships)
rule_of ships slot weights (Some (rules.Tugs fleet later jobs)) fits = jobs_of ships slot weights jobs fits.each_job

pub charges_of : (f : Problem) (toll : Toll) → IsFlat f → IsToll f toll → All (IsOf f.ships) (charges f toll)
charges_of f (Narrows blocks) flat is = blocks_of f blocks is.each_block
charges_of f (Tugs n slot weights most) flat is = rule_of f.ships slot weights (rule_at f n) (at_place (RuleFits f.ships) f.rules (n - f.ships) flat.each_rule)

charges_over : (ships : ℕ) (cs : List Charge) (table : List ℕ) → length table ≡ ships → All (IsOf ships) cs → sum_by (λ c. over (λ s x. takes s x c) 0 table) cs ≡ sum_by (charged table) cs
charges_over ships cs table full all = sum_same (λ c. over (λ s x. takes s x c) 0 table) (charged table) cs (λ i d lt. charged_over (get_or cs i d) table (omega (arith, all i d lt, full)))

pub usage_over : (f : Problem) (toll : Toll) (table : List ℕ) → IsFlat f → IsToll f toll → length table ≡ f.ships → over (takes_at f (Some toll)) 0 table ≡ usage f toll table
usage_over f toll table flat is full = over_sum (λ s x c. takes s x c) (charges f toll) 0 table ∙ charges_over f.ships (charges f toll) table full (charges_of f toll flat is)

at_over : (f : Problem) (o : Option Toll) (table : List ℕ) → IsFlat f → IfSome o (IsToll f) → length table ≡ f.ships → over (takes_at f o) 0 table ≡ usage_at f o table
at_over f None table flat is full = over_zero 0 table
at_over f (Some toll) table flat is full = usage_over f toll table flat is full

-- ---- all dues

-- what holds of all tolls holds of the toll with each number
pub at_number : (P : Toll → Type 0) (tolls : List Toll) (number : ℕ) → All P tolls → IfSome (toll_at tolls number) P
at_number P tolls zero all = tt
at_number P tolls (suc place) all = at_place P tolls place all

pub paid_over : (f : Problem) (tolls : List Toll) (dues : List Due) (table : List ℕ) → IsFlat f → All (IsToll f) tolls → length table ≡ f.ships → over (pays f tolls dues) 0 table ≡ paid f tolls dues table
paid_over f tolls dues table flat all full =
    over_sum (λ s x (due : Due). due.price * takes_at f (toll_at tolls due.toll) s x) dues 0 table
    ∙ sum_same (λ (due : Due). over (λ s x. due.price * takes_at f (toll_at tolls due.toll) s x) 0 table) (λ (due : Due). due.price * usage_at f (toll_at tolls due.toll) table) dues (λ i d lt. one (get_or dues i d))
  where
    one : (due : Due) → over (λ s x. due.price * takes_at f (toll_at tolls due.toll) s x) 0 table ≡ due.price * usage_at f (toll_at tolls due.toll) table
    one due =
        over_times due.price (takes_at f (toll_at tolls due.toll)) 0 table
        ∙ ap (λ n. due.price * n) (at_over f (toll_at tolls due.toll) table flat (at_number (IsToll f) tolls due.toll all) full)
