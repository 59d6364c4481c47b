-- Rules on tugs without steps, and how many steps there can be.
use Rattle.std.proofs.Common.{ℕ, zero, suc, ◌+◌, ◌<◌, ◌≤◌, List, [], ◌∷◌, length, get_or, All, AllPairs, refl, arith}
use Rattle.std.proofs.lemmas.List.Elements.{All-head}
use Rattle.hw_model.specs.declared.rule.Step.{Step}
use Rattle.hw_flat_laws.specs.Plain.{PlainTugsAsBefore, FewSteps}

pub plain_tugs : PlainTugsAsBefore
plain_tugs f table room fleet jobs = record { each_slot = λ slot. refl; holds = refl; overfull = refl; refuted = refl; exceeds = λ h. h; exceeded = λ h. h }

-- a step is at least so far on as there are steps before it
step_from : (least k : ℕ) (d : Step) (steps : List Step) → All (λ s. least ≤ s.from) steps → AllPairs (λ a b. a.from < b.from) steps → k < length steps → least + k ≤ (get_or steps k d).from
step_from least k d [] low pairs lt = absurd (omega (arith, lt))
step_from least zero d (step ∷ steps) low pairs lt = let h = All-head (λ s. least ≤ s.from) step steps low in omega (arith, h)
step_from least (suc k) d (step ∷ steps) low pairs lt =
    let h = All-head (λ s. least ≤ s.from) step steps low in
    let later : All (λ s. step.from + 1 ≤ s.from) steps = λ j e in_steps. let p = pairs 0 (suc j) e (omega arith) (omega (arith, in_steps)) in omega (arith, p) in
    let r = step_from (step.from + 1) k d steps later (λ i j e order within. pairs (suc i) (suc j) e (omega (arith, order)) (omega (arith, within))) (omega (arith, lt)) in
    omega (arith, r, h)

pub few_steps : FewSteps
few_steps sailing [] few fits pairs sail = omega arith
few_steps sailing (step ∷ steps) few fits pairs sail =
    let last = step_from 1 (length steps) step (step ∷ steps) (λ k d lt. (fits k d lt).later_slot) pairs (omega arith) in
    let below = sail (length steps) step (omega arith) in
    omega (arith, last, below, few)
