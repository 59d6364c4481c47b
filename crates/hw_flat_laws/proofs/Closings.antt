-- The rules of a text and what follows them, where they go on to a text that reads.
use Rattle.std.proofs.Common.{◌≡◌, ◌⊎◌, inl, inr, ℕ, zero, suc, ◌+◌, ◌<◌, ◌≤◌, ◌||◌, Bool, true, false, List, [], ◌∷◌, ◌++◌, map, length, take, drop, Some, None, Result, Ok, All, get_or, refl, sym, ap, ◌∙◌, subst, arith, codes}
use Rattle.std.proofs.lemmas.Bool.{cases_order, or_right}
use Rattle.std.proofs.lemmas.List.{append-nil, length-append, length-map, length-take, take-append-drop}
use Rattle.std.proofs.lemmas.List.Elements.{All-nil, All-cons, All-append, All-take}
use Rattle.hw_lemmas.specs.Operators.{◌>>=◌}
use Rattle.hw_model.specs.declared.rule.Rule.{Rule}
use Rattle.hw_model.specs.declared.rule.Step.{Step}
use Rattle.hw_model.specs.Limits.{JobFits, StepFits}
use Rattle.hw_model.specs.Problem.{Problem}
use Rattle.hw_flat.specs.Text.{Fault, rules_at, hours_needed, problem_of, finished}
use Rattle.hw_flat.specs.TextForms.{rule_form, has_hours, any_hours}
use Rattle.hw_flat.specs.TextWritten.{rule_text}
use Rattle.hw_flat.proofs.HourRules.{RuleIn}
use Rattle.hw_flat.proofs.TextBack.{rules_back}
use Rattle.hw_flat_laws.specs.FirstLines.{later_line}
use Rattle.hw_flat_laws.proofs.Same.{Parts, Full, Same, full_after, after_next, has}
use Rattle.hw_flat_laws.proofs.Refusals.{Mend}
use Rattle.hw_flat_laws.proofs.ShipLines.{Row, hour_rule, hour_rules, ending, full_ending}
use Rattle.hw_flat_laws.proofs.RuleLines.{each_rule}

abbrev pub AnyProblem : Problem → Type 0
AnyProblem f = Unit {0}

-- the limits of the numbers of ships and sailing slots
pub record Small (size : ℕ × ℕ) : Type 0 where
  pub some_ship : 1 ≤ size.0
  pub few_ships : size.0 ≤ 40
  pub some_slot : 1 ≤ size.1
  pub few_slots : size.1 ≤ 512

-- the rules and what follows them
abbrev pub closing : Bool × Bool → ℕ × ℕ → Row → Parts → Result Problem Fault
closing version size values parts = rules_at (rule_form version.1 size.0 size.1) (3 + size.0) 4_000 parts >>= λ rules. finished version size values rules.0 rules.1

-- ---- the least rule that needs hours

one_job : (ships : ℕ) → 1 ≤ ships → JobFits ships (record { ship = 0; tugs = 1; hold = 1 })
one_job ships some = record { ship_in = omega (arith, some); some_tugs = omega arith; few_tugs = omega arith; some_hold = omega arith; short_hold = omega arith }

hour_in : (hours : Bool) (ships slots : ℕ) → hours ≡ true → 1 ≤ ships → RuleIn hours ships slots hour_rule
hour_in hours ships slots may some = record {
  fits = record {
    small_fleet = omega arith;
    each_step = All-nil StepFits;
    steps_ascend = λ i j d lt within. absurd (omega (arith, within));
    some_job = omega arith;
    few_jobs = omega arith;
    each_job = All-cons (JobFits ships) (record { ship = 0; tugs = 1; hold = 1 }) [] (one_job ships some) (All-nil (JobFits ships));
    ascends = λ i j d lt within. absurd (omega (arith, lt, within));
  };
  sails = All-nil (λ (step : Step). step.from < slots);
  told = λ e. may;
}

hour_rules_in : (hours : Bool) (ships slots : ℕ) → 1 ≤ ships → All (RuleIn hours ships slots) (hour_rules hours)
hour_rules_in false ships slots some = All-nil (RuleIn false ships slots)
hour_rules_in true ships slots some = All-cons (RuleIn true ships slots) hour_rule [] (hour_in true ships slots refl some) (All-nil (RuleIn true ships slots))

hour_rules_few : (hours : Bool) → length (hour_rules hours) ≤ 4_000
hour_rules_few false = omega arith
hour_rules_few true = omega arith

hour_rules_needed : (hours : Bool) → hours_needed hours (hour_rules hours) ≡ true
hour_rules_needed false = refl
hour_rules_needed true = refl

-- ---- texts that end well

rules_end : (version : Bool × Bool) (size : ℕ × ℕ) (rules : List Rule) → Small size → All (RuleIn version.1 size.0 size.1) rules → length rules ≤ 4_000 → rules_at (rule_form version.1 size.0 size.1) (3 + size.0) 4_000 (ending rules) ≡ Ok (rules, [] ∷ [])
rules_end version size rules small each count = rules_back version.1 size.0 size.1 (3 + size.0) 4_000 rules ([] ∷ []) ([], [], refl) small.few_ships small.few_slots each count

ends_well : (version : Bool × Bool) (size : ℕ × ℕ) (values : Row) (rules : List Rule) → Small size → All (RuleIn version.1 size.0 size.1) rules → length rules ≤ 4_000 → hours_needed version.1 rules ≡ true → closing version size values (ending rules) ≡ Ok (problem_of version.0 size values rules)
ends_well version size values rules small each count needed =
    let after : List Rule × Parts → Result Problem Fault = λ x. finished version size values x.0 x.1 in
    let last : finished version size values rules ([] ∷ []) ≡ Ok (problem_of version.0 size values rules) = rw needed refl in
    ap (λ (r : Result (List Rule × Parts) Fault). r >>= after) (rules_end version size rules small each count) ∙ last

pub closed_here : (version : Bool × Bool) (size : ℕ × ℕ) (values : Row) → Small size → closing version size values (ending (hour_rules version.1)) ≡ Ok (problem_of version.0 size values (hour_rules version.1))
closed_here version size values small = ends_well version size values (hour_rules version.1) small (hour_rules_in version.1 size.0 size.1 small.some_ship) (hour_rules_few version.1) (hour_rules_needed version.1)

-- ---- rules that go on

same_front : (rules more : List Rule) (rest : Parts) → Full rest → Same (length rules) (map rule_text rules ++ rest) (ending (rules ++ more))
same_front [] more [] full = absurd (nothing full.2)
  where
    nothing : [] ≡ full.0 ∷ full.1 → ⊥
    nothing e = absurd cc
same_front [] more (x ∷ rest) full = subst (Same 0 (x ∷ rest)) (sym (full_ending more).2) tt
same_front (rule ∷ rules) more rest full = (refl, same_front rules more rest full)

mend_rules : (version : Bool × Bool) (size : ℕ × ℕ) (values : Row) (rules more : List Rule) (rest : Parts) → Full rest → Small size → All (RuleIn version.1 size.0 size.1) rules → All (RuleIn version.1 size.0 size.1) more → length rules + length more ≤ 4_000
    → hours_needed version.1 (rules ++ more) ≡ true → Mend AnyProblem (closing version size values) (map rule_text rules ++ rest) (length rules)
mend_rules version size values rules more rest full small each others count needed = record {
  mended = ending (rules ++ more);
  value = problem_of version.0 size values (rules ++ more);
  done = tt;
  reads = ends_well version size values (rules ++ more) small (All-append (RuleIn version.1 size.0 size.1) rules more each others) (omega (arith, length-append rules more, count)) needed;
  same = same_front rules more rest full;
}

any_more : (rules : List Rule) → any_hours (rules ++ hour_rule ∷ []) ≡ true
any_more [] = refl
any_more (rule ∷ rules) = or_right _ _ (any_more rules)

pub not_needed : (hours : Bool) (rules : List Rule) → hours_needed hours rules ≡ false → (hours ≡ true) × (any_hours rules ≡ false)
not_needed false rules e = absurd cc
not_needed true rules e = (refl, e)

-- so many of the rules go on to a text that reads: all of them, or where no rule may follow and none of them has the hours that are
-- wanted, all but the last
abbrev pub NoRoom : Bool → List Rule → Type 0
NoRoom hours rules = (hours ≡ true) × (length rules ≡ 4_000) × (any_hours rules ≡ false)

pub record RulesGoOn (version : Bool × Bool) (size : ℕ × ℕ) (values : Row) (rules : List Rule) (rest : Parts) : Type 0 where
  pub kept : ℕ
  pub mend : Mend AnyProblem (closing version size values) (map rule_text rules ++ rest) kept
  pub kept_is : (kept ≡ length rules) ⊎ ((suc kept ≡ length rules) × NoRoom version.1 rules)

pub rules_go_on : (version : Bool × Bool) (size : ℕ × ℕ) (values : Row) (rules : List Rule) (rest : Parts) → Full rest → Small size → All (RuleIn version.1 size.0 size.1) rules → length rules ≤ 4_000 → RulesGoOn version size values rules rest
rules_go_on version size values rules rest full small each count =
    let Fits : Rule → Type 0 = RuleIn version.1 size.0 size.1 in
    elim (hours_needed version.1 rules) as (λ b. hours_needed version.1 rules ≡ b → RulesGoOn version size values rules rest) [
      | true ↦ λ e. record {
        kept = length rules;
        mend = mend_rules version size values rules [] rest full small each (All-nil Fits) (omega (arith, count)) (ap (hours_needed version.1) (append-nil rules) ∙ e);
        kept_is = inl refl;
      }
      | false ↦ λ e.
          let n = not_needed version.1 rules e in
          let hour : All Fits (hour_rule ∷ []) = All-cons Fits hour_rule [] (hour_in version.1 size.0 size.1 n.0 small.some_ship) (All-nil Fits) in
          elim (cases_order (length rules) 4_000) [
            | inr (inl below) ↦ record {
              kept = length rules;
              mend = mend_rules version size values rules (hour_rule ∷ []) rest full small each hour (omega (arith, below)) (or_right _ _ (any_more rules));
              kept_is = inl refl;
            }
            | inr (inr above) ↦ absurd (omega (arith, above, count))
            | inl same ↦
                let init : List Rule = take 3_999 rules in
                let last : List Rule = drop 3_999 rules in
                let size_is : length init ≡ 3_999 = omega (arith, length-take 3_999 rules, same) in
                let parts : map rule_text init ++ (map rule_text last ++ rest) ≡ map rule_text rules ++ rest = mapped init last ∙ ap (λ rs. map rule_text rs ++ rest) (take-append-drop 3_999 rules) in
                let m = mend_rules version size values init (hour_rule ∷ []) (map rule_text last ++ rest) (full_after (map rule_text last) rest full) small (All-take Fits 3_999 rules each) hour (omega (arith, size_is)) (or_right _ _ (any_more init)) in
                record {
                  kept = length init;
                  mend = subst (λ ps. Mend AnyProblem (closing version size values) ps (length init)) parts m;
                  kept_is = inr (omega (arith, size_is, same), (n.0, same, n.1));
                }
          ]
    ] refl
  where
    mapped : (xs ys : List Rule) → map rule_text xs ++ (map rule_text ys ++ rest) ≡ map rule_text (xs ++ ys) ++ rest
    mapped [] ys = refl
    mapped (x ∷ xs) ys = ap (λ ps. rule_text x ∷ ps) (mapped xs ys)

-- ---- the lines of rules

none_has : (rules : List Rule) → any_hours rules ≡ false → All (λ rule. has_hours rule ≡ false) rules
none_has [] e = All-nil (λ rule. has_hours rule ≡ false)
none_has (rule ∷ rules) e = let p = neither (has_hours rule) (any_hours rules) e in All-cons (λ r. has_hours r ≡ false) rule rules p.0 (none_has rules p.1)
  where
    neither : (a b : Bool) → (a || b) ≡ false → (a ≡ false) × (b ≡ false)
    neither true b h = absurd cc
    neither false b h = (refl, h)

later_front : (i : ℕ) (front rest others : Parts) → Full rest → Full others → i < length front → later_line i (front ++ rest) ≡ later_line i (front ++ others)
later_front i [] rest others full full' lt = absurd (omega (arith, lt))
later_front zero (x ∷ front) rest others full full' lt =
    let a = full_after front rest full in
    let b = full_after front others full' in
    rw (a.2, b.2) refl
later_front (suc i) (x ∷ front) rest others full full' lt =
    after_next i x (front ++ rest) (full_after front rest full) ∙ later_front i front rest others full full' (omega (arith, lt)) ∙ sym (after_next i x (front ++ others) (full_after front others full'))

-- a line of a rule says it
pub rule_line : (version : Bool × Bool) (size : ℕ × ℕ) (rules : List Rule) (rest : Parts) (i : ℕ) → Full rest → Small size → All (RuleIn version.1 size.0 size.1) rules → length rules ≤ 4_000 → i < length rules
    → has (rule_form version.1 size.0 size.1) (later_line i (map rule_text rules ++ rest)) ≡ Some (get_or rules i hour_rule)
rule_line version size rules rest i full small each count lt =
    let line : later_line i (map rule_text rules ++ rest) ≡ later_line i (ending rules) = later_front i (map rule_text rules) rest (codes "end" ∷ [] ∷ []) full (codes "end", [] ∷ [], refl) (omega (arith, lt, length-map rules rule_text)) in
    ap (has (rule_form version.1 size.0 size.1)) line ∙ each_rule (rule_form version.1 size.0 size.1) (3 + size.0) 4_000 (ending rules) (rules, [] ∷ []) (rules_end version size rules small each count) i hour_rule lt

pub plain_line : (version : Bool × Bool) (size : ℕ × ℕ) (rules : List Rule) (rest : Parts) (i : ℕ) → Full rest → Small size → All (RuleIn version.1 size.0 size.1) rules → length rules ≤ 4_000 → any_hours rules ≡ false → i < length rules
    → (rule : Rule) × (has (rule_form version.1 size.0 size.1) (later_line i (map rule_text rules ++ rest)) ≡ Some rule) × (has_hours rule ≡ false)
plain_line version size rules rest i full small each count none lt = (get_or rules i hour_rule, rule_line version size rules rest i full small each count lt, none_has rules none i hour_rule lt)

-- `end` is no rule
pub end_no_rule : (hours : Bool) (ships slots : ℕ) → rule_form hours ships slots (codes "end") ≡ None
end_no_rule true ships slots = refl
end_no_rule false ships slots = refl

-- a line of a rule is not `end`
pub rule_no_end : (version : Bool × Bool) (size : ℕ × ℕ) (line : Parts) (i : ℕ) (rule : Rule) → has (rule_form version.1 size.0 size.1) (later_line i line) ≡ Some rule → later_line i line ≡ Some (codes "end") → ⊥
rule_no_end version size line i rule is ends =
    let none : None ≡ Some rule = sym (end_no_rule version.1 size.0 size.1) ∙ sym (ap (has (rule_form version.1 size.0 size.1)) ends) ∙ is in
    absurd (differ none)
  where
    differ : None ≡ Some rule → ⊥
    differ e = absurd cc
