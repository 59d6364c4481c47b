-- One step of a pass through dues.
use Rattle.std.proofs.Common.{◌≡◌, ℕ, zero, suc, ◌+◌, ◌-◌, ◌*◌, ◌<◌, ◌≤◌, min, max, Bool, true, false, cond, nat_le, List, [], ◌∷◌, Some, length, get_or, slice_get, drop, sum_by, IfSome, All, refl, sym, ap, ◌∙◌, subst, arith, drop-cons, length-drop, zero-le, inl, inr}
use Rattle.std.proofs.lemmas.Bool.{cases_lt, le-leb}
use Rattle.std.proofs.lemmas.List.{get_or-drop, get_or_default}
use Rattle.std.proofs.lemmas.List.Elements.{All-head, All-tail}
use Rattle.std.proofs.lemmas.List.Sums.{sum_by-cons}
use Rattle.std.proofs.lemmas.Option.{slice_get_read}
use Rattle.hw_model.specs.declared.rule.Job.{Job}
use Rattle.hw_model.specs.Problem.{Problem}
use Rattle.hw_price_laws.specs.declared.tariff.Due.{Due}
use Rattle.hw_price_laws.specs.declared.toll.Toll.{Toll}
use Rattle.hw_price_laws.specs.Prices.{toll_at, capacity_at, allowance}
use Rattle.hw_price_laws.specs.Tolls.{job_charge, job_charges, heaviest}
use Rattle.hw_price_laws.specs.Computed.{takes_at, pays}
use Rattle.hw_price_laws.proofs.Taken.{at_number}

pub sum_left : {X : Type 0} (g : X → ℕ) (xs : List X) (i : ℕ) (d : X) → i < length xs → sum_by g (drop i xs) ≡ g (get_or xs i d) + sum_by g (drop (i + 1) xs)
sum_left g xs i d lt =
    let next : suc i ≡ i + 1 = omega arith in
    ap (sum_by g) (drop-cons xs i d lt) ∙ sum_by-cons g (get_or xs i d) (drop (suc i) xs) ∙ ap (λ n. g (get_or xs i d) + sum_by g (drop n xs)) next

-- the toll with a number stands at the place before it
pub toll_read : (tolls : List Toll) (number place : ℕ) (toll : Toll) → 0 < number → number ≤ length tolls → place ≡ number - 1 → toll ≡ get_or tolls place toll → toll_at tolls number ≡ Some toll
toll_read tolls zero place toll some inside at read = absurd (omega (arith, some))
toll_read tolls (suc n) place toll some inside at read =
    let here : place ≡ n = omega (arith, at) in
    ap (slice_get tolls) (sym here) ∙ slice_get_read tolls (length tolls) place toll refl (omega (arith, inside, here)) read

-- what holds of all tolls holds of one that was told
pub told_toll : (P : Toll → Type 0) (tolls : List Toll) (number : ℕ) (toll : Toll) → All P tolls → toll_at tolls number ≡ Some toll → P toll
told_toll P tolls number toll all at = subst (λ o. IfSome o P) at (at_number P tolls number all)

-- the due at this place, and those after it
pub due_left : (f : Problem) (tolls : List Toll) (dues : List Due) (ship slot i : ℕ) (d : Due) (toll : Toll) → i < length dues → toll_at tolls (get_or dues i d).toll ≡ Some toll
    → pays f tolls (drop i dues) ship slot ≡ (get_or dues i d).price * takes_at f (Some toll) ship slot + pays f tolls (drop (i + 1) dues) ship slot
due_left f tolls dues ship slot i d toll lt told =
    sum_left (λ (due : Due). due.price * takes_at f (toll_at tolls due.toll) ship slot) dues i d lt
    ∙ ap (λ o. (get_or dues i d).price * takes_at f o ship slot + pays f tolls (drop (i + 1) dues) ship slot) told

pub due_allowed : (tolls : List Toll) (dues : List Due) (i sum here units all : ℕ) (d : Due) (toll : Toll) → i < length dues → toll_at tolls (get_or dues i d).toll ≡ Some toll
    → units ≡ capacity_at (Some toll) → here ≡ (get_or dues i d).price * units → sum + allowance tolls (drop i dues) ≡ all → (sum + here) + allowance tolls (drop (i + 1) dues) ≡ all
due_allowed tolls dues i sum here units all d toll lt one taken is told =
    let at : units ≡ capacity_at (toll_at tolls (get_or dues i d).toll) = taken ∙ ap capacity_at (sym one) in
    let paid : here ≡ (get_or dues i d).price * capacity_at (toll_at tolls (get_or dues i d).toll) = is ∙ ap (λ n. (get_or dues i d).price * n) at in
    omega (arith, paid, told, sum_left (λ (due : Due). due.price * capacity_at (toll_at tolls due.toll)) dues i d lt)

-- ---- jobs with their weights

pub charges_left : (slot : ℕ) (weights : List ℕ) (jobs : List Job) (i : ℕ) (d : Job) → length weights ≡ length jobs → i < length jobs → job_charges slot (drop i weights) (drop i jobs) ≡ job_charge slot (get_or weights i 0) (get_or jobs i d) ∷ job_charges slot (drop (i + 1) weights) (drop (i + 1) jobs)
charges_left slot weights jobs i d same lt =
    let next : suc i ≡ i + 1 = omega arith in
    ap (λ ws. job_charges slot ws (drop i jobs)) (drop-cons weights i 0 (omega (arith, same, lt)))
    ∙ ap (job_charges slot (get_or weights i 0 ∷ drop (suc i) weights)) (drop-cons jobs i d lt)
    ∙ ap (λ n. job_charge slot (get_or weights i 0) (get_or jobs i d) ∷ job_charges slot (drop n weights) (drop n jobs)) next

-- ---- the greatest weight

heaviest_small : (weights : List ℕ) (jobs : List Job) (tugs : ℕ) → All (λ weight. weight ≤ 64) weights → heaviest weights jobs tugs ≤ 64 * length jobs
heaviest_small [] jobs tugs all = zero-le
heaviest_small (w ∷ ws) [] tugs all = zero-le
heaviest_small (w ∷ ws) (j ∷ js) tugs all =
    by (nat_le j.tugs tugs) (All-head (λ weight. weight ≤ 64) w ws all) (heaviest_small ws js tugs (All-tail (λ weight. weight ≤ 64) w ws all)) (heaviest_small ws js (tugs - j.tugs) (All-tail (λ weight. weight ≤ 64) w ws all))
  where
    by : (b : Bool) → w ≤ 64 → heaviest ws js tugs ≤ 64 * length js → heaviest ws js (tugs - j.tugs) ≤ 64 * length js → cond b (max (heaviest ws js tugs) (w + heaviest ws js (tugs - j.tugs))) (heaviest ws js tugs) ≤ 64 * length (j ∷ js)
    by true few without with' = omega (arith, few, without, with')
    by false few without with' = omega (arith, without)

-- more tugs than all jobs hold serve no more jobs
pub enough : (weights : List ℕ) (jobs : List Job) (a b : ℕ) → sum_by (λ (job : Job). job.tugs) jobs ≤ a → sum_by (λ (job : Job). job.tugs) jobs ≤ b → heaviest weights jobs a ≡ heaviest weights jobs b
enough [] jobs a b x y = refl
enough (w ∷ ws) [] a b x y = refl
enough (w ∷ ws) (j ∷ js) a b x y =
    let all : sum_by (λ (job : Job). job.tugs) (j ∷ js) ≡ j.tugs + sum_by (λ (job : Job). job.tugs) js = sum_by-cons (λ (job : Job). job.tugs) j js in
    by (nat_le j.tugs a) (nat_le j.tugs b) (le-leb _ _ (omega (arith, all, x))) (le-leb _ _ (omega (arith, all, y)))
    (enough ws js a b (omega (arith, all, x)) (omega (arith, all, y)))
    (enough ws js (a - j.tugs) (b - j.tugs) (omega (arith, all, x)) (omega (arith, all, y)))
  where
    by : (p q : Bool) → p ≡ true → q ≡ true → heaviest ws js a ≡ heaviest ws js b → heaviest ws js (a - j.tugs) ≡ heaviest ws js (b - j.tugs)
        → cond p (max (heaviest ws js a) (w + heaviest ws js (a - j.tugs))) (heaviest ws js a) ≡ cond q (max (heaviest ws js b) (w + heaviest ws js (b - j.tugs))) (heaviest ws js b)
    by true true p q without with' = omega (arith, without, with')
    by true false p q without with' = absurd cc
    by false true p q without with' = absurd cc
    by false false p q without with' = without

-- tugs that are cut to those of all jobs serve as many
pub cut_tugs : (weights : List ℕ) (jobs : List Job) (tugs useful : ℕ) → useful ≡ min tugs (sum_by (λ (job : Job). job.tugs) jobs) → heaviest weights jobs useful ≡ heaviest weights jobs tugs
cut_tugs weights jobs tugs useful is = elim (cases_lt tugs (sum_by (λ (job : Job). job.tugs) jobs)) [
  | inl less ↦ ap (heaviest weights jobs) (all_kept tugs (sum_by (λ (job : Job). job.tugs) jobs) useful is less)
  | inr many ↦ enough weights jobs useful tugs (omega (arith, is, many)) many
]
  where
    all_kept : (tugs all useful : ℕ) → useful ≡ min tugs all → tugs < all → useful ≡ tugs
    all_kept tugs all useful is less = omega (arith, is, less)

all_drop : (n : ℕ) (weights : List ℕ) → All (λ weight. weight ≤ 64) weights → All (λ weight. weight ≤ 64) (drop n weights)
all_drop n weights all = λ i d lt.
    let inside : n + i < length weights = omega (arith, lt, length-drop n weights) in
    subst (λ w. w ≤ 64) (sym (get_or-drop n weights i d)) (all (n + i) d inside)

pub left_small : (weights : List ℕ) (jobs : List Job) (left tugs : ℕ) (most : List ℕ) → length jobs ≤ 40 → All (λ weight. weight ≤ 64) weights → 0 < left → length most ≡ tugs + 1 → ((k : ℕ) → k < tugs + 1 → get_or most k 0 ≡ heaviest (drop left weights) (drop left jobs) k) → All (λ m. m ≤ 2_496) most
left_small weights jobs left tugs most few all some long told = λ k d lt.
    let at : get_or most k 0 ≡ heaviest (drop left weights) (drop left jobs) k = told k (omega (arith, lt, long)) in
    let small : heaviest (drop left weights) (drop left jobs) k ≤ 64 * length (drop left jobs) = heaviest_small (drop left weights) (drop left jobs) k (all_drop left weights all) in
    omega (arith, at, small, length-drop left jobs, few, some, get_or_default most k d 0 lt)
