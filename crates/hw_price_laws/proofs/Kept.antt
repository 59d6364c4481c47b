-- A permitted timetable takes at most the capacity of a toll.
use Rattle.std.proofs.Common.{◌≡◌, ℕ, suc, ◌+◌, ◌-◌, ◌*◌, ◌/◌, ◌<◌, ◌≤◌, max, Bool, true, false, cond, ◌&&◌, nat_lt, nat_le, List, [], ◌∷◌, Option, Some, None, length, get_or, slice_get, slice_index, map, sum, sum_by, count_by, IfSome, IsSomeAnd, IsTrue, All, AllPairs, refl, sym, ap, ◌∙◌, subst, arith, le_refl, le_trans, zero-le}
use Rattle.std.proofs.lemmas.Bool.{leb-true, le-leb, and_parts}
use Rattle.std.proofs.lemmas.Bool.Decides.{nat_tests}
use Rattle.std.proofs.lemmas.List.Elements.{All-nil, All-cons, All-head, All-tail}
use Rattle.std.proofs.lemmas.List.Sums.{sum_by-cons}
use Rattle.std.proofs.lemmas.Nat.{le-div}
use Rattle.std.proofs.Math.Nat.{div-mul-le_self, div-le_self}
use Rattle.hw_lemmas.proofs.Truths.{not_true}
use Rattle.hw_model.specs.declared.rule.Job.{Job}
use Rattle.hw_model.specs.declared.rule.Rule.{Rule}
use Rattle.hw_model.specs.declared.rule.Rule.TheVariants as rules
use Rattle.hw_model.specs.declared.rule.Step.{Step}
use Rattle.hw_model.specs.declared.source.Source.TheVariants as sources
use Rattle.hw_model.specs.Problem.{Problem, horizon, shape_of}
use Rattle.hw_model.specs.Limits.{IsFlat, RuleFits, JobFits, StepFits}
use Rattle.hw_model.specs.Rules.{rule_holds, held_by, fleet_in}
use Rattle.hw_model.specs.Timetables.{Permits}
use Rattle.hw_model.specs.Rooms.{IsRoom, RoomFits, Inside, whole_room}
use Rattle.hw_model.specs.Narrowing.{with_range}
use Rattle.hw_model_laws.proofs.Bounds.{range_room}
use Rattle.hw_model_laws.proofs.Counting.{all_of_range, at_place}
use Rattle.hw_model_laws.proofs.Ranges.{inside_with_range}
use Rattle.hw_model_laws.proofs.Denials.{inside_whole}
use Rattle.hw_model_laws.proofs.Denying.{denied_fits}
use Rattle.hw_model_laws.proofs.Permitted.{sound_cargo}
use Rattle.hw_price_laws.specs.declared.toll.Block.{Block}
use Rattle.hw_price_laws.specs.declared.toll.Toll.{Toll}
use Rattle.hw_price_laws.specs.declared.toll.Toll.TheVariants.{Narrows, Tugs}
use Rattle.hw_price_laws.specs.Tolls.{IsToll, WeighsUpTo, Apart, BlockFits, two_blocks, lies_in, charged, rule_at, rule_charges, block_charge, job_charge, job_charges, heaviest, usage, capacity}
use Rattle.hw_price_laws.specs.Laws.{held_weights}
use Rattle.hw_price_laws.proofs.Sums.{sum_map}

-- ---- narrows

if_true : (b : Bool) (n : ℕ) → b ≡ true → cond b n 0 ≡ n
if_true true n e = refl
if_true false n e = absurd cc

if_false : (b : Bool) (n : ℕ) → b ≡ false → cond b n 0 ≡ 0
if_false true n e = absurd cc
if_false false n e = refl

none_of : {X : Type 0} (p : X → Bool) (xs : List X) → All (λ x. p x ≡ false) xs → count_by p xs ≡ 0
none_of p [] all = refl
none_of p (x ∷ xs) all =
    omega (arith, sum_by-cons (λ x. cond (p x) 1 0) x xs, if_false (p x) 1 (all 0 x (omega arith)), none_of p xs (λ i d lt. all (suc i) d (omega (arith, lt))))

-- at most one passes, where no two do
pub at_most_one : {X : Type 0} (p : X → Bool) (xs : List X) → AllPairs (λ a b. p a ≡ true → p b ≡ true → ⊥) xs → count_by p xs ≤ 1
at_most_one p [] all = omega arith
at_most_one p (x ∷ xs) all =
    by (p x) refl
    (λ e. none_of p xs (λ i d lt. not_true (p (get_or xs i d)) (λ t. all 0 (suc i) d (omega arith) (omega (arith, lt)) e t)))
    (at_most_one p xs (λ i j d lt inside. all (suc i) (suc j) d (omega (arith, lt)) (omega (arith, inside))))
  where
    by : (b : Bool) → p x ≡ b → (p x ≡ true → count_by p xs ≡ 0) → count_by p xs ≤ 1 → count_by p (x ∷ xs) ≤ 1
    by true e none rest = omega (arith, sum_by-cons (λ x. cond (p x) 1 0) x xs, none e, if_true (p x) 1 e)
    by false e none rest = omega (arith, sum_by-cons (λ x. cond (p x) 1 0) x xs, rest, if_false (p x) 1 e)

-- the ship lies in its block
abbrev pub is_in : List ℕ → Block → Bool
is_in table block = lies_in block.low block.high (slice_index table block.ship)

pub whole_fits : (f : Problem) → IsFlat f → RoomFits f (whole_room (shape_of f))
whole_fits f flat = denied_fits f [] flat refl

pub blocks_room : (f : Problem) (a b : Block) → IsFlat f → BlockFits f a → BlockFits f b → RoomFits f (two_blocks f a b)
blocks_room f a b flat first second = record {
  is_room = range_room _ b.ship b.low b.high (range_room _ a.ship a.low a.high (whole_fits f flat).is_room first.ordered first.slot_in) second.ordered second.slot_in;
  same_ships = refl;
  same_slots = refl;
}

never_both : (f : Problem) (table : List ℕ) (a b : Block) → IsFlat f → BlockFits f a → BlockFits f b → Apart f a b → Permits f table → is_in table a ≡ true → is_in table b ≡ true → ⊥
never_both f table a b flat first second apart permits p q =
    let whole : IsRoom (whole_room (shape_of f)) = (whole_fits f flat).is_room in
    let one : IsRoom (with_range (whole_room (shape_of f)) a.ship a.low a.high) = range_room _ a.ship a.low a.high whole first.ordered first.slot_in in
    let x = and_parts (nat_le a.low (slice_index table a.ship)) _ p in
    let y = and_parts (nat_le b.low (slice_index table b.ship)) _ q in
    let inside_one : Inside table (with_range (whole_room (shape_of f)) a.ship a.low a.high) = inside_with_range (whole_room (shape_of f)) table a.ship a.low a.high (omega (arith, whole.each_ship, first.ship_in)) (inside_whole f table permits.listed) (leb-true _ _ x.0) (leb-true _ _ x.1) in
    let inside : Inside table (two_blocks f a b) = inside_with_range _ table b.ship b.low b.high (omega (arith, one.each_ship, second.ship_in)) inside_one (leb-true _ _ y.0) (leb-true _ _ y.1) in
    sound_cargo f (sources.Rule apart.place) None (two_blocks f a b) table flat (blocks_room f a b flat first second) apart.place_in apart.refuted inside permits

pub narrows_usage : (f : Problem) (blocks : List Block) (table : List ℕ) → usage f (Narrows blocks) table ≡ count_by (is_in table) blocks
narrows_usage f blocks table = sum_map (charged table) block_charge blocks

-- ---- tugs

same_slots : (t slot hold : ℕ) → (nat_le (slot + 1 - hold) t && nat_le t slot) ≡ (nat_le t slot && nat_lt slot (t + hold))
same_slots t slot hold = grind (arith, nat_tests)

-- the job holds its tugs in the slot
abbrev pub holds_in : List ℕ → ℕ → Job → Bool
holds_in table slot job = nat_le (slice_index table job.ship) slot && nat_lt slot (slice_index table job.ship + job.hold)

job_usage : (table : List ℕ) (slot weight : ℕ) (job : Job) → charged table (job_charge slot weight job) ≡ cond (holds_in table slot job) weight 0
job_usage table slot weight job = ap (λ b. cond b weight 0) (same_slots (slice_index table job.ship) slot job.hold)

pub jobs_usage : (table : List ℕ) (slot : ℕ) (weights : List ℕ) (jobs : List Job) → sum_by (charged table) (job_charges slot weights jobs) ≡ sum (held_weights table slot weights jobs)
jobs_usage table slot [] jobs = refl
jobs_usage table slot (w ∷ ws) [] = refl
jobs_usage table slot (w ∷ ws) (j ∷ js) =
    omega (
      arith,
      sum_by-cons (charged table) (job_charge slot w j) (job_charges slot ws js),
      sum_by-cons (λ (x : ℕ). x) (cond (holds_in table slot j) w 0) (held_weights table slot ws js),
      job_usage table slot w j,
      jobs_usage table slot ws js,
    )

pub tugs_usage : (f : Problem) (n slot most fleet : ℕ) (later : List Step) (weights : List ℕ) (jobs : List Job) (table : List ℕ) → rule_at f n ≡ Some (rules.Tugs fleet later jobs) → usage f (Tugs n slot weights most) table ≡ sum (held_weights table slot weights jobs)
tugs_usage f n slot most fleet later weights jobs table e =
    ap (λ o. sum_by (charged table) (rule_charges slot weights o)) e ∙ jobs_usage table slot weights jobs

-- the heaviest choice is no lighter without its first job
without_first : (weight tugs : ℕ) (weights : List ℕ) (job : Job) (jobs : List Job) → heaviest weights jobs tugs ≤ heaviest (weight ∷ weights) (job ∷ jobs) tugs
without_first weight tugs weights job jobs = by (nat_le job.tugs tugs)
  where
    by : (b : Bool) → heaviest weights jobs tugs ≤ cond b (max (heaviest weights jobs tugs) (weight + heaviest weights jobs (tugs - job.tugs))) (heaviest weights jobs tugs)
    by true = omega arith
    by false = le_refl _

-- and where the job fits, than with it
with_first : (weight tugs : ℕ) (weights : List ℕ) (job : Job) (jobs : List Job) → job.tugs ≤ tugs → weight + heaviest weights jobs (tugs - job.tugs) ≤ heaviest (weight ∷ weights) (job ∷ jobs) tugs
with_first weight tugs weights job jobs le = by (nat_le job.tugs tugs) (le-leb job.tugs tugs le)
  where
    by : (b : Bool) → b ≡ true → weight + heaviest weights jobs (tugs - job.tugs) ≤ cond b (max (heaviest weights jobs tugs) (weight + heaviest weights jobs (tugs - job.tugs))) (heaviest weights jobs tugs)
    by true e = omega arith
    by false e = absurd cc

-- jobs that hold no more than this many tugs weigh no more than the heaviest choice
pub held_weigh : (table : List ℕ) (slot tugs : ℕ) (weights : List ℕ) (jobs : List Job) → sum_by (held_by table slot) jobs ≤ tugs → sum (held_weights table slot weights jobs) ≤ heaviest weights jobs tugs
held_weigh table slot tugs [] jobs le = le_refl 0
held_weigh table slot tugs (w ∷ ws) [] le = le_refl 0
held_weigh table slot tugs (w ∷ ws) (j ∷ js) le =
    by (holds_in table slot j) refl
    (λ few. held_weigh table slot (tugs - j.tugs) ws js few)
    (λ few. held_weigh table slot tugs ws js few)
  where
    by : (b : Bool) → holds_in table slot j ≡ b
        → (sum_by (held_by table slot) js ≤ tugs - j.tugs → sum (held_weights table slot ws js) ≤ heaviest ws js (tugs - j.tugs))
        → (sum_by (held_by table slot) js ≤ tugs → sum (held_weights table slot ws js) ≤ heaviest ws js tugs)
        → sum (held_weights table slot (w ∷ ws) (j ∷ js)) ≤ heaviest (w ∷ ws) (j ∷ js) tugs
    by true e here later =
        let own : held_by table slot j ≡ j.tugs = if_true (holds_in table slot j) j.tugs e in
        let weight : cond (holds_in table slot j) w 0 ≡ w = if_true (holds_in table slot j) w e in
        let few : j.tugs + sum_by (held_by table slot) js ≤ tugs = omega (arith, own, le, sum_by-cons (held_by table slot) j js) in
        omega (arith, weight, here (omega (arith, few)), with_first w tugs ws j js (omega (arith, few)), sum_by-cons (λ (x : ℕ). x) (cond (holds_in table slot j) w 0) (held_weights table slot ws js))
    by false e here later =
        let own : held_by table slot j ≡ 0 = if_false (holds_in table slot j) j.tugs e in
        let weight : cond (holds_in table slot j) w 0 ≡ 0 = if_false (holds_in table slot j) w e in
        omega (arith, weight, later (omega (arith, own, le, sum_by-cons (held_by table slot) j js)), without_first w tugs ws j js, sum_by-cons (λ (x : ℕ). x) (cond (holds_in table slot j) w 0) (held_weights table slot ws js))

rule_kept : (f : Problem) (table : List ℕ) (slot most : ℕ) (weights : List ℕ) (o : Option Rule) → IsSomeAnd o (WeighsUpTo slot weights most) → slot < horizon f → IfSome o (λ rule. IsTrue (rule_holds f table rule)) → sum_by (charged table) (rule_charges slot weights o) ≤ most
rule_kept f table slot most weights None on lt holds = absurd on
rule_kept f table slot most weights (Some (rules.Pair v w holes)) on lt holds = absurd on
rule_kept f table slot most weights (Some (rules.After v w gap)) on lt holds = absurd on
rule_kept f table slot most weights (Some (rules.Tugs fleet later jobs)) on lt holds =
    let kept : nat_le (sum_by (held_by table slot) jobs) (fleet_in fleet later slot) ≡ true = all_of_range (λ slot. nat_le (sum_by (held_by table slot) jobs) (fleet_in fleet later slot)) 0 (horizon f) holds slot (omega arith) (omega (arith, lt)) in
    let le : sum_by (held_by table slot) jobs ≤ fleet_in fleet later slot = leb-true _ _ kept in
    omega (arith, held_weigh table slot (fleet_in fleet later slot) weights jobs le, on.1, jobs_usage table slot weights jobs)

pub kept : (f : Problem) (toll : Toll) (table : List ℕ) → IsFlat f → IsToll f toll → Permits f table → usage f toll table ≤ capacity toll
kept f (Narrows blocks) table flat is permits =
    let one : count_by (is_in table) blocks ≤ 1 = at_most_one (is_in table) blocks (λ i j d lt inside. never_both f table (get_or blocks i d) (get_or blocks j d) flat (is.each_block i d (omega (arith, lt, inside))) (is.each_block j d inside) (is.apart i j d lt inside) permits) in
    omega (arith, one, narrows_usage f blocks table)
kept f (Tugs n slot weights most) table flat is permits = rule_kept f table slot most weights (rule_at f n) is.weighed is.slot_in (permits.keeps (n - f.ships))

-- ---- whole teams

-- whole teams of two numbers are no more than those of their sum
two_quotients : (a tugs team : ℕ) → 1 ≤ team → a ≤ tugs → a / team + (tugs - a) / team ≤ tugs / team
two_quotients a tugs team some le =
    le-div _ tugs team some (sums (a / team) ((tugs - a) / team) team a (tugs - a) tugs (div-mul-le_self a team) (div-mul-le_self (tugs - a) team) (omega (arith, le)))
  where
    sums : (x y q a b t : ℕ) → x * q ≤ a → y * q ≤ b → a + b ≡ t → (x + y) * q ≤ t
    sums x y q a b t p r e = grind arith

teams_weigh : (team tugs : ℕ) (jobs : List Job) → 1 ≤ team → heaviest (map (λ job. job.tugs / team) jobs) jobs tugs ≤ tugs / team
teams_weigh team tugs [] some = zero-le
teams_weigh team tugs (j ∷ js) some = by (nat_le j.tugs tugs) refl (teams_weigh team tugs js some) (teams_weigh team (tugs - j.tugs) js some)
  where
    by : (b : Bool) → nat_le j.tugs tugs ≡ b → heaviest (map (λ job. job.tugs / team) js) js tugs ≤ tugs / team → heaviest (map (λ job. job.tugs / team) js) js (tugs - j.tugs) ≤ (tugs - j.tugs) / team
        → cond b (max (heaviest (map (λ job. job.tugs / team) js) js tugs) (j.tugs / team + heaviest (map (λ job. job.tugs / team) js) js (tugs - j.tugs))) (heaviest (map (λ job. job.tugs / team) js) js tugs) ≤ tugs / team
    by true e without with' = omega (arith, without, with', two_quotients j.tugs tugs team some (leb-true _ _ e))
    by false e without with' = without

length_teams : (team : ℕ) (jobs : List Job) → length (map (λ job. job.tugs / team) jobs) ≡ length jobs
length_teams team [] = refl
length_teams team (j ∷ js) = omega (arith, length_teams team js)

small_teams : (ships team : ℕ) (jobs : List Job) → All (JobFits ships) jobs → All (λ weight. weight ≤ 64) (map (λ job. job.tugs / team) jobs)
small_teams ships team [] all = All-nil (λ weight. weight ≤ 64)
small_teams ships team (j ∷ js) all =
    let here : JobFits ships j = All-head (JobFits ships) j js all in
    All-cons (λ weight. weight ≤ 64) (j.tugs / team) (map (λ job. job.tugs / team) js) (le_trans (div-le_self j.tugs team) here.few_tugs) (small_teams ships team js (All-tail (JobFits ships) j js all))

-- a small fleet with small steps is small in each slot
pub small_fleet_in : (later : List Step) (fleet slot : ℕ) → fleet ≤ 2560 → All StepFits later → fleet_in fleet later slot ≤ 2560
small_fleet_in [] fleet slot small each = small
small_fleet_in (step ∷ later) fleet slot small each = by (nat_le step.from slot) (small_fleet_in later step.fleet slot (All-head StepFits step later each).small_fleet (All-tail StepFits step later each))
  where
    by : (b : Bool) → fleet_in step.fleet later slot ≤ 2560 → cond b (fleet_in step.fleet later slot) fleet ≤ 2560
    by true rest = rest
    by false rest = small

pub teams : (f : Problem) (place slot team fleet : ℕ) (later : List Step) (jobs : List Job) → IsFlat f → slot < horizon f → 1 ≤ team → slice_get f.rules place ≡ Some (rules.Tugs fleet later jobs) → IsToll f (Tugs (f.ships + place) slot (map (λ job. job.tugs / team) jobs) (fleet_in fleet later slot / team))
teams f place slot team fleet later jobs flat lt some e =
    let fits : RuleFits f.ships (rules.Tugs fleet later jobs) = subst (λ o. IfSome o (RuleFits f.ships)) e (at_place (RuleFits f.ships) f.rules place flat.each_rule) in
    let same : f.ships + place - f.ships ≡ place = omega arith in
    let at : rule_at f (f.ships + place) ≡ Some (rules.Tugs fleet later jobs) = ap (slice_get f.rules) same ∙ e in
    record {
      past_ships = omega arith;
      weighed = subst (λ o. IsSomeAnd o (WeighsUpTo slot (map (λ job. job.tugs / team) jobs) (fleet_in fleet later slot / team))) (sym at) (length_teams team jobs, teams_weigh team (fleet_in fleet later slot) jobs some);
      slot_in = lt;
      small_weights = small_teams f.ships team jobs fits.each_job;
      small_most = le_trans (div-le_self (fleet_in fleet later slot) team) (small_fleet_in later fleet slot fits.small_fleet fits.each_step);
    }
