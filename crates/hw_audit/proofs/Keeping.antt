-- What is kept besides a state: marks decide rules, and how they are mended.
use Rattle.std.proofs.Common.{◌≡◌, ◌≢◌, ◌==◌, ℕ, zero, suc, ◌+◌, ◌-◌, ◌<◌, ◌≤◌, Bool, true, false, cond, not, is_some, ◌&&◌, ◌||◌, nat_le, nat_lt, List, [], ◌∷◌, map, Some, None, slice_get, option_map, sum_by, set, get_or, get_or-set_other, get_or-set_same, length, refl, sym, ap, ◌∙◌, arith, inl, inr}
use Rattle.std.proofs.lemmas.Bool.{cases_eq, eqb-false, or_parts, cases_lt}
use Rattle.std.proofs.lemmas.Option.{same_Some, slice_get-get_or}
use Rattle.std.proofs.lemmas.List.{get_or_past}
use Rattle.std.specs.List.{list_all, range_with_len}
use Rattle.hw_lemmas.proofs.Lists.{has_get}
use Rattle.hw_model.specs.declared.rule.Job.{Job}
use Rattle.hw_model.specs.declared.rule.Rule.{Rule}
use Rattle.hw_model.specs.declared.rule.Rule.TheVariants.{Pair, After, Tugs}
use Rattle.hw_model.specs.declared.rule.Step.{Step}
use Rattle.hw_model.specs.Problem.{Problem, horizon, value_at}
use Rattle.hw_model.specs.Rules.{held_by, pair_holds, fleet_in}
use Rattle.hw_model.specs.Timetables.{restriction_holds, holds_at}
use Rattle.hw_audit.specs.declared.marks.Concern.TheVariants.{Ship, Fleet}
use Rattle.hw_plan_texts.specs.Fleets.{lessened, lessened_step, lessened_rule}
use Rattle.hw_audit.specs.Keeping.{TugsComeLast, last_jobs, AreHeld, holds_now, decided_by_held_tugs, concerns, AreMarks, AreOtherMarks, kept_holds}
use Rattle.hw_rules.specs.Fleets.{jobs_in}

-- ---- each rule decided

-- two tests that agree on a range
same_over : (p q : ℕ → Bool) (a n : ℕ) → ((k : ℕ) → a ≤ k → k < a + n → p k ≡ q k) → list_all p (range_with_len a n) ≡ list_all q (range_with_len a n)
same_over p q a zero same = refl
same_over p q a (suc n) same =
    ap (λ (b : Bool). b && list_all p (range_with_len (a + 1) n)) (same a (omega arith) (omega arith))
    ∙ ap (λ (b : Bool). q a && b) (same_over p q (a + 1) n (λ k low high. same k (omega (arith, low)) (omega (arith, high))))

-- with fewer tugs in the fleet there are as many fewer in each slot
fewer_in : (withdrawn slot fleet : ℕ) (later : List Step) → fleet_in (fleet - withdrawn) (map (lessened_step withdrawn) later) slot ≡ fleet_in fleet later slot - withdrawn
fewer_in withdrawn slot fleet [] = refl
fewer_in withdrawn slot fleet (step ∷ later) =
    by_test (nat_le step.from slot) (fleet_in (step.fleet - withdrawn) (map (lessened_step withdrawn) later) slot) (fleet_in step.fleet later slot) (fewer_in withdrawn slot step.fleet later)
  where
    by_test : (b : Bool) (x y : ℕ) → x ≡ y - withdrawn → cond b x (fleet - withdrawn) ≡ cond b y fleet - withdrawn
    by_test true x y e = e
    by_test false x y e = refl

-- a rule on tugs has the last rule's jobs
own_jobs : (rules : List Rule) (place fleet : ℕ) (later : List Step) (jobs : List Job) → TugsComeLast rules → slice_get rules place ≡ Some (Tugs fleet later jobs) → last_jobs rules ≡ jobs
own_jobs rules place fleet later jobs last e =
    let at : length rules - 1 ≡ place = omega (arith, last place fleet later jobs e) in
    ap (λ n. jobs_in (slice_get rules n)) at ∙ ap jobs_in e

pub kept_decides : (f : Problem) (table held : List ℕ) (withdrawn place : ℕ) (rule : Rule) → TugsComeLast f.rules → AreHeld f table held → slice_get f.rules place ≡ Some rule → decided_by_held_tugs f table held withdrawn rule ≡ holds_now f table withdrawn rule
kept_decides f table held withdrawn place (Pair v w holes) last are e = refl
kept_decides f table held withdrawn place (After v w gap) last are e = refl
kept_decides f table held withdrawn place (Tugs fleet later jobs) last are e =
    let same : last_jobs f.rules ≡ jobs = own_jobs f.rules place fleet later jobs last e in
    let test = λ (slot : ℕ). nat_le (get_or held slot 0) (fleet_in fleet later slot - withdrawn) in
    let kept = λ (slot : ℕ). nat_le (sum_by (held_by table slot) jobs) (fleet_in (fleet - withdrawn) (map (lessened_step withdrawn) later) slot) in
    let each : (slot : ℕ) → slot < horizon f → test slot ≡ kept slot =
    λ slot lt.
    ap (λ (n : ℕ). nat_le n (fleet_in fleet later slot - withdrawn)) (are.told slot lt ∙ ap (λ js. sum_by (held_by table slot) js) same)
    ∙ ap (λ (n : ℕ). nat_le (sum_by (held_by table slot) jobs) n) (sym (fewer_in withdrawn slot fleet later)) in
    same_over test kept 0 (horizon f) (λ slot low high. each slot (omega (arith, high)))

-- ---- what is left as it is

both_same : (f : Problem) (table : List ℕ) (ship slot v w : ℕ) (rule : Rule) → (v == ship || w == ship) ≡ false → pair_holds f rule (get_or (set table ship slot) v 0) (get_or (set table ship slot) w 0) ≡ pair_holds f rule (get_or table v 0) (get_or table w 0)
both_same f table ship slot v w rule e =
    let parts = or_parts (v == ship) (w == ship) e in
    let first : get_or (set table ship slot) v 0 ≡ get_or table v 0 = get_or-set_other table ship v slot 0 (eqb-false v ship parts.0) in
    let second : get_or (set table ship slot) w 0 ≡ get_or table w 0 = get_or-set_other table ship w slot 0 (eqb-false w ship parts.1) in
    ap (λ (x : ℕ). pair_holds f rule x (get_or (set table ship slot) w 0)) first ∙ ap (λ (y : ℕ). pair_holds f rule (get_or table v 0) y) second

-- a rule that doesn't concern a ship holds alike whatever slot the ship has
unmoved : (f : Problem) (table : List ℕ) (withdrawn ship slot : ℕ) (rule : Rule) → concerns (Ship ship) rule ≡ false → holds_now f table withdrawn rule ≡ holds_now f (set table ship slot) withdrawn rule
unmoved f table withdrawn ship slot (Pair v w holes) e = sym (both_same f table ship slot v w (Pair v w holes) e)
unmoved f table withdrawn ship slot (After v w gap) e = sym (both_same f table ship slot v w (After v w gap) e)
unmoved f table withdrawn ship slot (Tugs fleet later jobs) e = absurd cc

-- a rule on two ships holds alike whatever tugs are left
no_tugs : (f : Problem) (table : List ℕ) (was withdrawn : ℕ) (rule : Rule) → concerns Fleet rule ≡ false → holds_now f table was rule ≡ holds_now f table withdrawn rule
no_tugs f table was withdrawn (Pair v w holes) e = refl
no_tugs f table was withdrawn (After v w gap) e = refl
no_tugs f table was withdrawn (Tugs fleet later jobs) e = absurd cc

pub others_moved : (f : Problem) (table : List ℕ) (withdrawn ship slot : ℕ) (holds : List Bool) → AreMarks f table withdrawn holds → AreOtherMarks f (set table ship slot) withdrawn (Ship ship) holds
others_moved f table withdrawn ship slot holds marks = record {
  each_rule = marks.each_rule;
  told = λ place rule e other. marks.told place rule e ∙ unmoved f table withdrawn ship slot rule other;
}

pub others_left : (f : Problem) (table : List ℕ) (was withdrawn : ℕ) (holds : List Bool) → AreMarks f table was holds → AreOtherMarks f table withdrawn Fleet holds
others_left f table was withdrawn holds marks = record {
  each_rule = marks.each_rule;
  told = λ place rule e other. marks.told place rule e ∙ no_tugs f table was withdrawn rule other;
}

-- ---- restrictions by what is kept

mapped_get : {A B : Type 0} (g : A → B) (xs : List A) (place : ℕ) (x : A) → slice_get xs place ≡ Some x → slice_get (map g xs) place ≡ Some (g x)
mapped_get g [] place x e = absurd cc
mapped_get {A} {B} g (y ∷ xs) zero x e = ap (option_map g) e
mapped_get g (y ∷ xs) (suc place) x e = mapped_get g xs place x e

mapped_past : {A B : Type 0} (g : A → B) (xs : List A) (place : ℕ) → length xs ≤ place → slice_get (map g xs) place ≡ None
mapped_past g [] place le = refl
mapped_past g (y ∷ xs) zero le = absurd (omega (arith, le))
mapped_past g (y ∷ xs) (suc place) le = mapped_past g xs place (omega (arith, le))

rule_kept : (f : Problem) (table : List ℕ) (withdrawn : ℕ) (holds : List Bool) (place : ℕ) → AreMarks f table withdrawn holds
    → get_or holds place true ≡ holds_at (lessened withdrawn f) table (slice_get (map (lessened_rule withdrawn) f.rules) place)
rule_kept f table withdrawn holds place marks = elim (cases_lt place (length f.rules)) [
  | inl lt ↦
      let rule = has_get f.rules place lt in
      marks.told place rule.0 rule.1 ∙ sym (ap (holds_at (lessened withdrawn f) table) (mapped_get (lessened_rule withdrawn) f.rules place rule.0 rule.1))
  | inr past ↦
      get_or_past holds place true (omega (arith, past, marks.each_rule)) ∙ sym (ap (holds_at (lessened withdrawn f) table) (mapped_past (lessened_rule withdrawn) f.rules place past))
]

pub kept_is : (f : Problem) (table : List ℕ) (withdrawn : ℕ) (holds : List Bool) → AreMarks f table withdrawn holds → (n : ℕ) → not (kept_holds f table holds n) ≡ not (restriction_holds (lessened withdrawn f) table n)
kept_is f table withdrawn holds marks n =
    ap (λ b. not (cond (nat_lt n f.ships) (is_some (value_at f n (get_or table n 0))) b)) (rule_kept f table withdrawn holds (n - f.ships) marks)

-- ---- marks one after another, as a loop makes them

-- the marks of the rules before a place are right
abbrev pub MarkedTo : Problem → List ℕ → ℕ → ℕ → List Bool → Type 0
MarkedTo f table withdrawn to holds = (k : ℕ) (rule : Rule) → k < to → slice_get f.rules k ≡ Some rule → get_or holds k true ≡ holds_now f table withdrawn rule

upto : (k place : ℕ) → k < place + 1 → k ≢ place → k < place
upto k place below ne = grind arith

same_place : (f : Problem) (k place : ℕ) (rule other : Rule) → k ≡ place → slice_get f.rules place ≡ Some rule → slice_get f.rules k ≡ Some other → rule ≡ other
same_place f k place rule other same there at = same_Some rule other (sym there ∙ (ap (slice_get f.rules) (sym same) ∙ at))

pub marked_more : (f : Problem) (table : List ℕ) (withdrawn place : ℕ) (rule : Rule) (mark : Bool) (holds : List Bool) → place < length holds → slice_get f.rules place ≡ Some rule → mark ≡ holds_now f table withdrawn rule
    → MarkedTo f table withdrawn place holds → MarkedTo f table withdrawn (place + 1) (set holds place mark)
marked_more f table withdrawn place rule mark holds inside there e so_far k other below at = elim (cases_eq k place) [
  | inl same ↦
      ap (λ i. get_or (set holds place mark) i true) same
      ∙ (get_or-set_same holds place mark true inside
      ∙ (e ∙ ap (holds_now f table withdrawn) (same_place f k place rule other same there at)))
  | inr ne ↦ get_or-set_other holds place k mark true ne ∙ so_far k other (upto k place below ne) at
]

pub marked_kept : (f : Problem) (table : List ℕ) (withdrawn place : ℕ) (rule : Rule) (holds : List Bool) → slice_get f.rules place ≡ Some rule → get_or holds place true ≡ holds_now f table withdrawn rule
    → MarkedTo f table withdrawn place holds → MarkedTo f table withdrawn (place + 1) holds
marked_kept f table withdrawn place rule holds there e so_far k other below at = elim (cases_eq k place) [
  | inl same ↦ ap (λ i. get_or holds i true) same ∙ (e ∙ ap (holds_now f table withdrawn) (same_place f k place rule other same there at))
  | inr ne ↦ so_far k other (upto k place below ne) at
]

-- the rule at a place
pub rule_at : (rules : List Rule) (place : ℕ) (rule : Rule) → place < length rules → rule ≡ get_or rules place rule → slice_get rules place ≡ Some rule
rule_at rules place rule lt e = slice_get-get_or rules place rule lt ∙ ap (λ r. Some r) (sym e)
