-- What is added to costs.
use Rattle.std.proofs.Common.{◌≡◌, ℕ, suc, ◌+◌, ◌-◌, ◌*◌, ◌<◌, ◌≤◌, max, Bool, true, false, cond, ◌&&◌, nat_eq, nat_le, nat_lt, List, [], ◌∷◌, Option, Some, None, length, get_or, map, drop, sum_by, option_map, IfSome, All, refl, sym, ap, ◌∙◌, arith, le_refl, le_trans, zero-le, drop-cons}
use Rattle.std.proofs.lemmas.Bool.Decides.{nat_tests}
use Rattle.std.proofs.lemmas.List.{get_or_default}
use Rattle.std.proofs.lemmas.List.Elements.{All-nil, All-cons, All-head, All-tail}
use Rattle.std.proofs.lemmas.List.Sums.{sum_by-cons}
use Rattle.std.proofs.Math.Nat.{mul-le-mul_right}
use Rattle.hw_model.specs.declared.rule.Job.{Job}
use Rattle.hw_model.specs.declared.rule.Rule.{Rule}
use Rattle.hw_model.specs.declared.rule.Rule.TheVariants as rules
use Rattle.hw_model.specs.Problem.{Problem, value_at}
use Rattle.hw_model.specs.Limits.{IsFlat, RuleFits}
use Rattle.hw_model_laws.proofs.Counting.{at_place}
use Rattle.hw_price_laws.specs.declared.tariff.Balance.{Balance}
use Rattle.hw_price_laws.specs.declared.tariff.Due.{Due}
use Rattle.hw_price_laws.specs.declared.tariff.Tariff.{Tariff}
use Rattle.hw_price_laws.specs.declared.toll.Block.{Block}
use Rattle.hw_price_laws.specs.declared.toll.Charge.{Charge}
use Rattle.hw_price_laws.specs.declared.toll.Toll.{Toll}
use Rattle.hw_price_laws.specs.declared.toll.Toll.TheVariants.{Narrows, Tugs}
use Rattle.hw_price_laws.specs.Tolls.{IsToll, lies_in, block_charge, job_charge, job_charges, rule_at, rule_charges}
use Rattle.hw_price_laws.specs.Prices.{DueFits, toll_at}
use Rattle.hw_price_laws.specs.Computed.{takes, takes_at, pays, balance}
use Rattle.hw_price_laws.proofs.Taken.{at_number}
use Rattle.hw_price_tests.proofs.Steps.{due_left, told_toll}

pub whole_span : (from to k j : ℕ) → from ≤ k → k ≤ max from to → to ≤ k → (nat_le from j && nat_lt j k) ≡ (nat_le from j && nat_lt j to)
whole_span from to k j a b c = grind (arith, nat_tests)

-- ---- a list of charges

pub charge_step : (low high price ship k old new all : ℕ) (charge : Charge) (rest before : List Charge) → before ≡ charge ∷ rest → new ≡ old + cond (lies_in low high k) (price * takes ship k charge) 0
    → old + cond (lies_in low high k) (price * sum_by (takes ship k) before) 0 ≡ all → new + cond (lies_in low high k) (price * sum_by (takes ship k) rest) 0 ≡ all
charge_step low high price ship k old new all charge rest before split is told =
    by (lies_in low high k) is (ap (λ cs. old + cond (lies_in low high k) (price * sum_by (takes ship k) cs) 0) (sym split) ∙ told)
  where
    by : (b : Bool) → new ≡ old + cond b (price * takes ship k charge) 0 → old + cond b (price * sum_by (takes ship k) (charge ∷ rest)) 0 ≡ all → new + cond b (price * sum_by (takes ship k) rest) 0 ≡ all
    by true is told = parts price (takes ship k charge) (sum_by (takes ship k) rest) (sum_by (takes ship k) (charge ∷ rest)) old new all is told (sum_by-cons (takes ship k) charge rest)
      where
        parts : (p a b s old new all : ℕ) → new ≡ old + p * a → old + p * s ≡ all → s ≡ a + b → new + p * b ≡ all
        parts p a b s old new all is told sum = grind arith
    by false is told = omega (arith, is, told)

-- the first of these charges, and the others
pub charge_left : (price ship slot : ℕ) (charge : Charge) (rest before : List Charge) → before ≡ charge ∷ rest → price * sum_by (takes ship slot) before ≡ price * takes ship slot charge + price * sum_by (takes ship slot) rest
charge_left price ship slot charge rest before split = parts price (takes ship slot charge) (sum_by (takes ship slot) rest) (sum_by (takes ship slot) before) (ap (sum_by (takes ship slot)) split ∙ sum_by-cons (takes ship slot) charge rest)
  where
    parts : (p a b s : ℕ) → s ≡ a + b → p * s ≡ p * a + p * b
    parts p a b s sum = grind arith

takes_small : (ship k : ℕ) (charge : Charge) → takes ship k charge ≤ charge.amount
takes_small ship k charge = by (nat_eq charge.ship ship && lies_in charge.low charge.high k)
  where
    by : (b : Bool) → cond b charge.amount 0 ≤ charge.amount
    by true = le_refl _
    by false = zero-le

all_small : (ship k : ℕ) (cs : List Charge) → All (λ charge. charge.amount ≤ 64) cs → sum_by (takes ship k) cs ≤ 64 * length cs
all_small ship k [] all = zero-le
all_small ship k (c ∷ cs) all =
    let here : c.amount ≤ 64 = All-head (λ (charge : Charge). charge.amount ≤ 64) c cs all in
    omega (arith, takes_small ship k c, here, all_small ship k cs (All-tail (λ (charge : Charge). charge.amount ≤ 64) c cs all), sum_by-cons (takes ship k) c cs)

times_small : (p n : ℕ) → p ≤ 1_000_000_000_000_000_000 → n ≤ 2_560 → p * n ≤ 2_560_000_000_000_000_000_000
times_small p n a b = le_trans (mul-le-mul_right n a) (omega (arith, b))

added_small : (low high price ship k : ℕ) (cs : List Charge) → price ≤ 1_000_000_000_000_000_000 → length cs ≤ 40 → All (λ charge. charge.amount ≤ 64) cs → cond (lies_in low high k) (price * sum_by (takes ship k) cs) 0 ≤ 2_560_000_000_000_000_000_000
added_small low high price ship k cs cheap few all = by (lies_in low high k)
  where
    by : (b : Bool) → cond b (price * sum_by (takes ship k) cs) 0 ≤ 2_560_000_000_000_000_000_000
    by true = times_small price (sum_by (takes ship k) cs) cheap (omega (arith, all_small ship k cs all, few))
    by false = zero-le

-- costs to which a part of the charges was added are small
pub costs_small : (low high price ship : ℕ) (cs rest : List Charge) (old costs : List ℕ) → price ≤ 1_000_000_000_000_000_000 → length cs ≤ 40 → All (λ charge. charge.amount ≤ 64) cs → length costs ≡ length old
    → All (λ c. c ≤ 256_000_000_000_000_000_000_000_000) old
    → ((k : ℕ) → get_or costs k 0 + cond (lies_in low high k) (price * sum_by (takes ship k) rest) 0 ≡ get_or old k 0 + cond (lies_in low high k) (price * sum_by (takes ship k) cs) 0)
    → All (λ c. c ≤ 1_000_000_000_000_000_000_000_000_000) costs
costs_small low high price ship cs rest old costs cheap few all same small told = λ k d lt.
    let was : get_or old k 0 ≤ 256_000_000_000_000_000_000_000_000 = small k 0 (omega (arith, lt, same)) in
    omega (arith, was, told k, added_small low high price ship k cs cheap few all, get_or_default costs k d 0 lt)

length_blocks : (blocks : List Block) → length (map block_charge blocks) ≡ length blocks
length_blocks [] = refl
length_blocks (b ∷ bs) = omega (arith, length_blocks bs)

pub blocks_small : (blocks : List Block) → All (λ charge. charge.amount ≤ 64) (map block_charge blocks)
blocks_small [] = All-nil (λ (charge : Charge). charge.amount ≤ 64)
blocks_small (b ∷ bs) = All-cons (λ (charge : Charge). charge.amount ≤ 64) (block_charge b) (map block_charge bs) (omega arith) (blocks_small bs)

pub few_blocks : (blocks : List Block) → length blocks ≤ 40 → length (map block_charge blocks) ≤ 40
few_blocks blocks few = omega (arith, few, length_blocks blocks)

pub jobs_small : (slot : ℕ) (weights : List ℕ) (jobs : List Job) → All (λ weight. weight ≤ 64) weights → All (λ charge. charge.amount ≤ 64) (job_charges slot weights jobs)
jobs_small slot [] jobs all = All-nil (λ (charge : Charge). charge.amount ≤ 64)
jobs_small slot (w ∷ ws) [] all = All-nil (λ (charge : Charge). charge.amount ≤ 64)
jobs_small slot (w ∷ ws) (j ∷ js) all = All-cons (λ (charge : Charge). charge.amount ≤ 64) (job_charge slot w j) (job_charges slot ws js) (All-head (λ weight. weight ≤ 64) w ws all) (jobs_small slot ws js (All-tail (λ weight. weight ≤ 64) w ws all))

pub few_jobs : (slot : ℕ) (weights : List ℕ) (jobs : List Job) → length jobs ≤ 40 → length (job_charges slot weights jobs) ≤ 40
few_jobs slot weights jobs few = le_trans (shorter slot weights jobs) few
  where
    shorter : (slot : ℕ) (weights : List ℕ) (jobs : List Job) → length (job_charges slot weights jobs) ≤ length jobs
    shorter slot [] jobs = zero-le
    shorter slot (w ∷ ws) [] = zero-le
    shorter slot (w ∷ ws) (j ∷ js) = omega (arith, shorter slot ws js)

pub blocks_left : (blocks : List Block) (i : ℕ) (d : Block) → i < length blocks → map block_charge (drop i blocks) ≡ block_charge (get_or blocks i d) ∷ map block_charge (drop (i + 1) blocks)
blocks_left blocks i d lt =
    let next : suc i ≡ i + 1 = omega arith in
    ap (map block_charge) (drop-cons blocks i d lt) ∙ ap (λ n. block_charge (get_or blocks i d) ∷ map block_charge (drop n blocks)) next

-- ---- one toll, and one due

rule_small : (ships slot ship k : ℕ) (weights : List ℕ) (o : Option Rule) → IfSome o (RuleFits ships) → All (λ weight. weight ≤ 64) weights → sum_by (takes ship k) (rule_charges slot weights o) ≤ 2_560
rule_small ships slot ship k weights None fits small = zero-le
rule_small ships slot ship k weights (Some (rules.Pair v w holes)) fits small = zero-le
rule_small ships slot ship k weights (Some (rules.After v w gap)) fits small = zero-le
rule_small ships slot ship k weights (Some (rules.Tugs fleet later jobs)) fits small =
    omega (arith, all_small ship k (job_charges slot weights jobs) (jobs_small slot weights jobs small), few_jobs slot weights jobs fits.few_jobs)

pub toll_small : (f : Problem) (toll : Toll) (ship k : ℕ) → IsFlat f → IsToll f toll → takes_at f (Some toll) ship k ≤ 2_560
toll_small f (Narrows blocks) ship k flat is = omega (arith, all_small ship k (map block_charge blocks) (blocks_small blocks), few_blocks blocks is.few_blocks)
toll_small f (Tugs n slot weights most) ship k flat is = rule_small f.ships slot ship k weights (rule_at f n) (at_place (RuleFits f.ships) f.rules (n - f.ships) flat.each_rule) is.small_weights

taken_small : (f : Problem) (o : Option Toll) (ship slot : ℕ) → IsFlat f → IfSome o (IsToll f) → takes_at f o ship slot ≤ 2_560
taken_small f None ship slot flat h = zero-le
taken_small f (Some toll) ship slot flat h = toll_small f toll ship slot flat h

-- no ship pays more than this in a slot
pub pays_small : (f : Problem) (tolls : List Toll) (dues : List Due) (ship slot : ℕ) → IsFlat f → All (IsToll f) tolls → All (DueFits (length tolls)) dues → pays f tolls dues ship slot ≤ 2_560_000_000_000_000_000_000 * length dues
pays_small f tolls [] ship slot flat all fit = zero-le
pays_small f tolls (due ∷ dues) ship slot flat all fit =
    let fits : DueFits (length tolls) due = All-head (DueFits (length tolls)) due dues fit in
    let few : takes_at f (toll_at tolls due.toll) ship slot ≤ 2_560 = taken_small f (toll_at tolls due.toll) ship slot flat (at_number (IsToll f) tolls due.toll all) in
    let here : due.price * takes_at f (toll_at tolls due.toll) ship slot ≤ 2_560_000_000_000_000_000_000 = times_small due.price (takes_at f (toll_at tolls due.toll) ship slot) fits.small_price few in
    let rest : pays f tolls dues ship slot ≤ 2_560_000_000_000_000_000_000 * length dues = pays_small f tolls dues ship slot flat all (All-tail (DueFits (length tolls)) due dues fit) in
    omega (arith, here, rest, sum_by-cons (λ (due : Due). due.price * takes_at f (toll_at tolls due.toll) ship slot) due dues)

due_small : (b : Bool) (price units : ℕ) → price ≤ 1_000_000_000_000_000_000 → units ≤ 2_560 → cond b (price * units) 0 ≤ 2_560_000_000_000_000_000_000
due_small true price units cheap few = times_small price units cheap few
due_small false price units cheap few = zero-le

-- the costs after one more due: they stay small, and what is left is what is left
pub due_charged : (f : Problem) (tolls : List Toll) (dues : List Due) (ship low high i k old new all : ℕ) (d : Due) (toll : Toll) → IsFlat f → All (IsToll f) tolls → All (DueFits (length tolls)) dues → i < length dues → toll_at tolls (get_or dues i d).toll ≡ Some toll
    → new ≡ old + cond (lies_in low high k) ((get_or dues i d).price * takes_at f (Some toll) ship k) 0
    → old + cond (lies_in low high k) (pays f tolls (drop i dues) ship k) 0 ≡ all
    → (new ≤ old + 2_560_000_000_000_000_000_000) × (new + cond (lies_in low high k) (pays f tolls (drop (i + 1) dues) ship k) 0 ≡ all)
due_charged f tolls dues ship low high i k old new all d toll flat tolls_are fit lt at is told =
    let one : IsToll f toll = told_toll (IsToll f) tolls (get_or dues i d).toll toll tolls_are at in
    let few : takes_at f (Some toll) ship k ≤ 2_560 = toll_small f toll ship k flat one in
    let left : pays f tolls (drop i dues) ship k ≡ (get_or dues i d).price * takes_at f (Some toll) ship k + pays f tolls (drop (i + 1) dues) ship k = due_left f tolls dues ship k i d toll lt at in
    (omega (arith, is, due_small (lies_in low high k) (get_or dues i d).price (takes_at f (Some toll) ship k) (fit i d lt).small_price few), by (lies_in low high k) is told left)
  where
    by : (b : Bool) → new ≡ old + cond b ((get_or dues i d).price * takes_at f (Some toll) ship k) 0 → old + cond b (pays f tolls (drop i dues) ship k) 0 ≡ all
        → pays f tolls (drop i dues) ship k ≡ (get_or dues i d).price * takes_at f (Some toll) ship k + pays f tolls (drop (i + 1) dues) ship k → new + cond b (pays f tolls (drop (i + 1) dues) ship k) 0 ≡ all
    by true is told left = omega (arith, is, told, left)
    by false is told left = omega (arith, is, told)

-- ---- a balance by a cost

-- the balance of a value and a cost
abbrev pub balance_by : ℕ → ℕ → ℕ → Balance
balance_by scale cost v = record { gain = scale * v; cost = cost }

pub by_cost : (f : Problem) (tolls : List Toll) (tariff : Tariff) (ship slot cost : ℕ) (value : Option ℕ) (found : Option Balance) → found ≡ option_map (balance_by tariff.scale cost) value → value ≡ value_at f ship slot → cost ≡ pays f tolls tariff.dues ship slot → found ≡ balance f tolls tariff ship slot
by_cost f tolls tariff ship slot cost value found is told paid =
    is ∙ ap (option_map (balance_by tariff.scale cost)) told ∙ ap (λ c. option_map (balance_by tariff.scale c) (value_at f ship slot)) paid
