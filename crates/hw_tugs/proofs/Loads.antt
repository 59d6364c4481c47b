-- What jobs certainly hold, by ranges that were seen and by a room.
use Rattle.std.proofs.Common.{◌≡◌, ℕ, zero, suc, ◌+◌, ◌*◌, ◌<◌, ◌≤◌, List, [], ◌∷◌, length, get_or, set, sum_by, refl, sym, ap, ◌∙◌, arith}
use Rattle.std.specs.Prelude.{All}
use Rattle.std.proofs.lemmas.List.{get_or_default, set-get_or}
use Rattle.std.proofs.lemmas.List.Elements.{All-head, All-tail, All-nil, All-cons}
use Rattle.std.proofs.lemmas.List.Sums.{sum_by-cons}
use Rattle.hw_lemmas.proofs.Truths.{cond_most}
use Rattle.hw_model.specs.declared.rule.Job.{Job}
use Rattle.hw_model.specs.Limits.{JobFits}
use Rattle.hw_model.specs.Rooms.{RoomModel}
use Rattle.hw_model.specs.Refuting.{forced_by}
use Rattle.hw_prop.specs.Plain.{range_of}
use Rattle.hw_tugs.specs.Held.{held_for, held_for_sure, IsLoad, Sees, IsForced}

-- ---- how much is held

pub held_few : (jobs : List Job) (seen : List (ℕ × ℕ)) (slot : ℕ) → All (λ job. job.tugs ≤ 64) jobs → held_for_sure jobs seen slot ≤ 64 * length jobs
held_few [] seen slot all = omega arith
held_few (job ∷ jobs) [] slot all = omega arith
held_few (job ∷ jobs) (range ∷ seen) slot all =
    let here : held_for job range slot ≤ job.tugs = cond_most _ job.tugs in
    let few : job.tugs ≤ 64 = All-head (λ (j : Job). j.tugs ≤ 64) job jobs all in
    omega (arith, here, few, held_few jobs seen slot (All-tail (λ (j : Job). j.tugs ≤ 64) job jobs all))

pub few_tugs : (ships : ℕ) (jobs : List Job) → All (JobFits ships) jobs → All (λ job. job.tugs ≤ 64) jobs
few_tugs ships [] all = All-nil (λ (j : Job). j.tugs ≤ 64)
few_tugs ships (job ∷ jobs) all = All-cons (λ (j : Job). j.tugs ≤ 64) job jobs (All-head (JobFits ships) job jobs all).few_tugs (few_tugs ships jobs (All-tail (JobFits ships) job jobs all))

pub held_at : (jobs : List Job) (seen : List (ℕ × ℕ)) (place : ℕ) (job : Job) (slot : ℕ) → place < length jobs → length seen ≡ length jobs → held_for (get_or jobs place job) (get_or seen place (0, 0)) slot ≤ held_for_sure jobs seen slot
held_at [] seen place job slot lt same = absurd (omega (arith, lt))
held_at (j ∷ js) [] place job slot lt same = absurd (omega (arith, same))
held_at (j ∷ js) (range ∷ seen) zero job slot lt same = omega arith
held_at (j ∷ js) (range ∷ seen) (suc place) job slot lt same = omega (arith, held_at js seen place job slot (omega (arith, lt)) (omega (arith, same)))

-- where one job's range is another, what is held changes by that job alone
pub held_set : (jobs : List Job) (seen : List (ℕ × ℕ)) (place : ℕ) (job : Job) (range : ℕ × ℕ) (slot : ℕ) → place < length jobs → length seen ≡ length jobs
    → held_for_sure jobs (set seen place range) slot + held_for (get_or jobs place job) (get_or seen place (0, 0)) slot ≡ held_for_sure jobs seen slot + held_for (get_or jobs place job) range slot
held_set [] seen place job range slot lt same = absurd (omega (arith, lt))
held_set (j ∷ js) [] place job range slot lt same = absurd (omega (arith, same))
held_set (j ∷ js) (old ∷ seen) zero job range slot lt same = omega arith
held_set (j ∷ js) (old ∷ seen) (suc place) job range slot lt same = omega (arith, held_set js seen place job range slot (omega (arith, lt)) (omega (arith, same)))

-- the ranges of a room tell what is forced there
pub held_forced : (room : RoomModel) (jobs : List Job) (seen : List (ℕ × ℕ)) (slot : ℕ) → length seen ≡ length jobs → Sees room jobs seen → held_for_sure jobs seen slot ≡ sum_by (forced_by room slot) jobs
held_forced room [] seen slot same sees = refl
held_forced room (job ∷ jobs) [] slot same sees = absurd (omega (arith, same))
held_forced room (job ∷ jobs) (range ∷ seen) slot same sees =
    let here : range ≡ range_of room job.ship = sees 0 job (omega arith) in
    let now : held_for job range slot ≡ forced_by room slot job = ap (λ (r : ℕ × ℕ). held_for job r slot) here in
    omega (
      arith,
      now,
      sum_by-cons (forced_by room slot) job jobs,
      held_forced room jobs seen slot (omega (arith, same)) (λ place other lt. sees (suc place) other (omega (arith, lt))),
    )

pub load_forced : (room : RoomModel) (jobs : List Job) (seen : List (ℕ × ℕ)) (load : List ℕ) → IsLoad jobs seen load → Sees room jobs seen → IsForced jobs room load
load_forced room jobs seen load is sees slot lt = is.told slot lt ∙ held_forced room jobs seen slot is.each_job sees

pub forced_load : (room : RoomModel) (jobs : List Job) (seen : List (ℕ × ℕ)) (load : List ℕ) → length seen ≡ length jobs → Sees room jobs seen → IsForced jobs room load → IsLoad jobs seen load
forced_load room jobs seen load same sees forced = record {
  each_job = same;
  told = λ slot lt. forced slot lt ∙ sym (held_forced room jobs seen slot same sees);
}

-- ---- what was seen
abbrev pair : ℕ → ℕ → ℕ × ℕ
pair a b = (a, b)

-- a range that is written again
pub set_again : (seen : List (ℕ × ℕ)) (place : ℕ) (old range : ℕ × ℕ) → place < length seen → old ≡ get_or seen place old → old.0 ≡ range.0 → old.1 ≡ range.1 → seen ≡ set seen place range
set_again seen place old range lt is low high =
    let same : range ≡ old = ap (λ a. pair a range.1) (sym low) ∙ ap (λ b. pair old.0 b) (sym high) in
    sym (ap (λ r. set seen place r) (same ∙ is ∙ get_or_default seen place old (0, 0) lt) ∙ set-get_or seen place (0, 0))

pub load_few : (jobs : List Job) (seen : List (ℕ × ℕ)) (load : List ℕ) → IsLoad jobs seen load → length jobs ≤ 40 → All (λ job. job.tugs ≤ 64) jobs → (slot : ℕ) → slot < length load → get_or load slot 0 ≤ 10_000
load_few jobs seen load is few tugs slot lt = omega (arith, is.told slot lt, few, held_few jobs seen slot tugs)
