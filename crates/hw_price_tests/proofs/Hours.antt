-- The fleet of a slot by its steps: it changes only where a step begins.
use Rattle.std.proofs.Common.{◌≡◌, ◌⊎◌, ℕ, zero, suc, ◌<◌, ◌≤◌, Bool, true, false, cond, nat_le, List, [], ◌∷◌, length, get_or, All, AllPairs, Any, refl, sym, ◌∙◌, arith, inl, inr, le_refl}
use Rattle.std.proofs.lemmas.Bool.{cases_lt, leb-true, le-leb}
use Rattle.hw_model.specs.declared.rule.Step.{Step}
use Rattle.hw_model.specs.Rules.{fleet_in}

-- the steps ascend
abbrev pub Ascend : List Step → Type 0
Ascend later = AllPairs (λ a b. a.from < b.from) later

-- before its first step a fleet is what it begins with
not_begun : (fleet : ℕ) (step : Step) (later : List Step) (slot : ℕ) → slot < step.from → fleet_in fleet (step ∷ later) slot ≡ fleet
not_begun fleet step later slot lt = by (nat_le step.from slot) refl
  where
    by : (b : Bool) → nat_le step.from slot ≡ b → cond b (fleet_in step.fleet later slot) fleet ≡ fleet
    by true e = absurd (omega (arith, lt, leb-true step.from slot e))
    by false e = refl

-- from a step on it is what that step and the later ones make it
begun : (fleet : ℕ) (step : Step) (later : List Step) (slot : ℕ) → step.from ≤ slot → fleet_in fleet (step ∷ later) slot ≡ fleet_in step.fleet later slot
begun fleet step later slot le = by (nat_le step.from slot) (le-leb step.from slot le)
  where
    by : (b : Bool) → b ≡ true → cond b (fleet_in step.fleet later slot) fleet ≡ fleet_in step.fleet later slot
    by true e = refl
    by false e = absurd cc

unchanged : (fleet : ℕ) (later : List Step) (slot : ℕ) → All (λ step. slot < step.from) later → fleet_in fleet later slot ≡ fleet
unchanged fleet [] slot all = refl
unchanged fleet (step ∷ later) slot all = not_begun fleet step later slot (all 0 step (omega arith))

rest : (step : Step) (later : List Step) → Ascend (step ∷ later) → Ascend later
rest step later ascend = λ i j d ij inside. ascend (suc i) (suc j) d (omega (arith, ij)) (omega (arith, inside))

later_on : (step : Step) (later : List Step) → Ascend (step ∷ later) → All (λ other. step.from < other.from) later
later_on step later ascend = λ i d inside. ascend 0 (suc i) d (omega arith) (omega (arith, inside))

-- where a step begins the fleet is the step's
pub at_step : (fleet : ℕ) (later : List Step) (i : ℕ) (d : Step) → Ascend later → i < length later → fleet_in fleet later (get_or later i d).from ≡ (get_or later i d).fleet
at_step fleet [] i d ascend lt = absurd (omega (arith, lt))
at_step fleet (step ∷ later) zero d ascend lt = begun fleet step later step.from (le_refl step.from) ∙ unchanged step.fleet later step.from (later_on step later ascend)
at_step fleet (step ∷ later) (suc i) d ascend lt =
    let inside : i < length later = omega (arith, lt) in
    begun fleet step later (get_or later i d).from (omega (arith, later_on step later ascend i d inside)) ∙ at_step step.fleet later i d (rest step later ascend) inside

-- between two slots the fleet stays, or a step begins that makes it what it is
pub last_step : (fleet : ℕ) (later : List Step) (before slot : ℕ) → Ascend later → before ≤ slot → (fleet_in fleet later before ≡ fleet_in fleet later slot) ⊎ Any (λ step. (before < step.from) × (step.from ≤ slot) × (step.fleet ≡ fleet_in fleet later slot)) later
last_step fleet [] before slot ascend le = inl refl
last_step fleet (step ∷ later) before slot ascend le = elim (cases_lt slot step.from) [
  | inl early ↦ inl (not_begun fleet step later before (omega (arith, early, le)) ∙ sym (not_begun fleet step later slot early))
  | inr started ↦ elim (last_step step.fleet later before slot (rest step later ascend) le) [
    | inr s ↦ inr (suc s.0, s.1, omega (arith, s.2), s.3, (s.4.0, s.4.1, s.4.2 ∙ sym (begun fleet step later slot started)))
    | inl same ↦ elim (cases_lt before step.from) [
      | inl after ↦
          let still : fleet_in step.fleet later before ≡ step.fleet = unchanged step.fleet later before (λ i d inside. omega (arith, after, later_on step later ascend i d inside)) in
          inr (0, step, omega arith, refl, (after, started, sym still ∙ same ∙ sym (begun fleet step later slot started)))
      | inr past ↦ inl (begun fleet step later before past ∙ same ∙ sym (begun fleet step later slot started))
    ]
  ]
]
