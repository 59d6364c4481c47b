-- Rules by the text that they need: one whose fleets have hours, or any.
use Rattle.std.proofs.Common.{◌≡◌, ℕ, ◌<◌, ◌≤◌, ◌||◌, not, Bool, true, false, List, [], ◌∷◌, refl, sym, ◌∙◌, arith, nat_lt, All}
use Rattle.std.proofs.lemmas.Bool.{ltb-true, ltb-false, or_left, or_right, or_cases}
use Rattle.std.proofs.lemmas.List.Elements.{All-nil, All-cons, All-head, All-tail}
use Rattle.hw_model.specs.declared.rule.Job.{Job}
use Rattle.hw_model.specs.declared.rule.Rule.{Rule}
use Rattle.hw_model.specs.declared.rule.Rule.TheVariants.{Tugs}
use Rattle.hw_model.specs.declared.rule.Step.{Step}
use Rattle.hw_model.specs.Limits.{RuleFits, StepFits, StepsSail}
use Rattle.hw_flat.specs.Text.{hours_needed}
use Rattle.hw_flat.specs.TextForms.{most_fleet, has_hours, any_hours}

-- a step of a fleet in a problem with this many sailing slots
abbrev pub StepIn : ℕ → Step → Type 0
StepIn slots step = StepFits step × (step.from < slots)

-- a rule that a text can have: it keeps the limits, its steps are in sailing slots, and it needs hours only where fleets have them
pub record RuleIn (hours : Bool) (ships slots : ℕ) (rule : Rule) : Type 0 where
  pub fits : RuleFits ships rule
  pub sails : StepsSail slots rule
  pub told : has_hours rule ≡ true → hours ≡ true

never : {A : Type 0} → false ≡ true → A
never h = absurd cc

-- a fleet without steps, and the greatest that a line may have
pub fleet_within : (hours : Bool) (fleet : ℕ) (jobs : List Job) → fleet ≤ 2_560 → (has_hours (Tugs fleet [] jobs) ≡ true → hours ≡ true) → fleet ≤ most_fleet hours
fleet_within true fleet jobs small told = small
fleet_within false fleet jobs small told =
    elim (nat_lt 1_000 fleet) as (λ b. nat_lt 1_000 fleet ≡ b → fleet ≤ 1_000) [
      | true ↦ λ e. never (told e)
      | false ↦ λ e. ltb-false 1_000 fleet e
    ] refl

pub fleet_told : (hours : Bool) (fleet : ℕ) (jobs : List Job) → fleet ≤ most_fleet hours → (fleet ≤ 2_560) × (has_hours (Tugs fleet [] jobs) ≡ true → hours ≡ true)
fleet_told true fleet jobs small = (small, λ e. refl)
fleet_told false fleet jobs small = (omega (arith, small), λ e. let lt : 1_000 < fleet = ltb-true _ _ e in absurd (omega (arith, lt, small)))

pub most_small : (hours : Bool) → most_fleet hours ≤ 2_560
most_small true = omega arith
most_small false = omega arith

-- where no rule needs hours, none of them does
none_has : (rules : List Rule) → All (λ rule. has_hours rule ≡ true → false ≡ true) rules → any_hours rules ≡ false
none_has [] told = refl
none_has (rule ∷ rules) told =
    elim (has_hours rule) as (λ b. has_hours rule ≡ b → (b || any_hours rules) ≡ false) [
      | true ↦ λ e. never (All-head (λ r. has_hours r ≡ true → false ≡ true) rule rules told e)
      | false ↦ λ e. none_has rules (All-tail (λ r. has_hours r ≡ true → false ≡ true) rule rules told)
    ] refl

-- rules that a text can have say whether its fleets have hours
pub hours_are : (hours : Bool) (ships slots : ℕ) (rules : List Rule) → All (RuleIn hours ships slots) rules → hours_needed hours rules ≡ true → any_hours rules ≡ hours
hours_are true ships slots rules each needed = needed
hours_are false ships slots rules each needed = none_has rules (λ k d lt. (each k d lt).told)

-- in the text of a problem each rule can have what it needs
each_told : (hours : Bool) (rules : List Rule) → (any_hours rules ≡ true → hours ≡ true) → All (λ rule. has_hours rule ≡ true → hours ≡ true) rules
each_told hours [] h = All-nil (λ rule. has_hours rule ≡ true → hours ≡ true)
each_told hours (rule ∷ rules) h =
    All-cons (λ r. has_hours r ≡ true → hours ≡ true) rule rules (λ e. h (or_left _ _ e)) (each_told hours rules (λ e. h (or_right _ _ e)))

pub each_in : (ships slots : ℕ) (rules : List Rule) → All (RuleFits ships) rules → All (StepsSail slots) rules → All (RuleIn (any_hours rules) ships slots) rules
each_in ships slots rules fits sail = let told = each_told (any_hours rules) rules (λ e. e) in λ k d lt. record { fits = fits k d lt; sails = sail k d lt; told = told k d lt }

pub needed_here : (rules : List Rule) → hours_needed (any_hours rules) rules ≡ true
needed_here rules = either (any_hours rules)
  where
    either : (b : Bool) → (not b || b) ≡ true
    either true = refl
    either false = refl
