-- Sums of which one term changes.
use Rattle.std.proofs.Common.{◌≡◌, ◌≢◌, ℕ, zero, suc, ◌+◌, ◌-◌, ◌<◌, ◌≤◌, max, List, [], ◌∷◌, Some, length, get_or, slice_get, fold, sum_by, unwrap_or, AllPairs, refl, sym, ◌∙◌, ap, arith, inl, inr}
use Rattle.std.proofs.lemmas.Bool.{cases_eq}
use Rattle.std.proofs.lemmas.List.Sums.{sum_by-cons}
use Rattle.std.specs.List.{range_with_len}
use Rattle.hw_model.specs.declared.rule.Job.{Job}
use Rattle.hw_model.specs.Problem.{Problem, value_at}
use Rattle.hw_model.specs.Rooms.{RoomModel, RoomFits, low_of, high_of}
use Rattle.hw_model.specs.Narrowing.{with_range}
use Rattle.hw_model.specs.Refuting.{greatest_value, greatest_sum, forced_by}
use Rattle.hw_model_laws.proofs.Bounds.{low_new, high_new, low_other, high_other}
use Rattle.hw_model_laws.proofs.Alikes.{values_alike, forced_same}

beyond : (g h : ℕ → ℕ) (v from count : ℕ) → ((k : ℕ) → k ≢ v → g k ≡ h k) → v < from → sum_by g (range_with_len from count) ≡ sum_by h (range_with_len from count)
beyond g h v from zero same lt = refl
beyond g h v from (suc count) same lt =
    omega (
      arith,
      sum_by-cons g from (range_with_len (from + 1) count),
      sum_by-cons h from (range_with_len (from + 1) count),
      same from (λ e. omega (arith, e, lt)),
      beyond g h v (from + 1) count same (omega (arith, lt)),
    )

further : (a k : ℕ) → a ≤ k → (k ≡ a → ⊥) → a + 1 ≤ k
further a k le ne = grind arith

pub one_changed : (g h : ℕ → ℕ) (v from count : ℕ) → ((k : ℕ) → k ≢ v → g k ≡ h k) → from ≤ v → v < from + count → sum_by g (range_with_len from count) + h v ≡ sum_by h (range_with_len from count) + g v
one_changed g h v from zero same le lt = absurd (omega (arith, le, lt))
one_changed g h v from (suc count) same le lt = elim (cases_eq v from) [
  | inl e ↦
      let a : g from ≡ g v = ap g (sym e) in
      let b : h from ≡ h v = ap h (sym e) in
      omega (arith, a, b, sum_by-cons g from (range_with_len (from + 1) count), sum_by-cons h from (range_with_len (from + 1) count), beyond g h v (from + 1) count same (omega (arith, e)))
  | inr ne ↦
      omega (
        arith,
        sum_by-cons g from (range_with_len (from + 1) count),
        sum_by-cons h from (range_with_len (from + 1) count),
        same from (λ e. ne (sym e)),
        one_changed g h v (from + 1) count same (further from v le ne) (omega (arith, lt)),
      )
]

pub goal_changed : (f : Problem) (room : RoomModel) (ship low high : ℕ) → RoomFits f room → ship < f.ships
    → greatest_sum f (with_range room ship low high) + greatest_value f ship (low_of room ship) (high_of room ship) ≡ greatest_sum f room + greatest_value f ship low high
goal_changed f room ship low high fits lt =
    let inside : ship < length room.ranges = omega (arith, lt, fits.is_room.each_ship, fits.same_ships) in
    let new : greatest_value f ship (low_of (with_range room ship low high) ship) (high_of (with_range room ship low high) ship) ≡ greatest_value f ship low high =
    values_alike f ship low high _ _ (low_new room ship low high inside) (high_new room ship low high inside) in
    one_changed (λ k. greatest_value f k (low_of (with_range room ship low high) k) (high_of (with_range room ship low high) k)) (λ k. greatest_value f k (low_of room k) (high_of room k)) ship 0 f.ships
    (λ k ne. values_alike f k (low_of room k) (high_of room k) _ _ (low_other room ship low high k ne) (high_other room ship low high k ne)) (omega arith) (omega (arith, lt))
    ∙ ap (λ n. greatest_sum f room + n) new

pub greatest_of_one : (f : Problem) (ship slot : ℕ) → greatest_value f ship slot slot ≡ unwrap_or (value_at f ship slot) 0
greatest_of_one f ship slot =
    let one : slot + 1 - slot ≡ 1 = omega arith in
    ap (λ n. fold (λ most s. max most (unwrap_or (value_at f ship s) 0)) 0 (range_with_len slot n)) one ∙ least (unwrap_or (value_at f ship slot) 0)
  where
    least : (n : ℕ) → max 0 n ≡ n
    least n = omega arith

-- ---- jobs
abbrev Ascend : List Job → Type 0
Ascend jobs = AllPairs (λ (a b : Job). a.ship < b.ship) jobs

rest : (job : Job) (jobs : List Job) → Ascend (job ∷ jobs) → Ascend jobs
rest job jobs up = λ i j d p q. up (suc i) (suc j) d (omega (arith, p)) (omega (arith, q))

other_job : (room : RoomModel) (ship low high slot : ℕ) (job : Job) → job.ship ≢ ship → forced_by (with_range room ship low high) slot job ≡ forced_by room slot job
other_job room ship low high slot job ne = sym (forced_same (low_of room job.ship) (high_of room job.ship) _ _ slot job.hold job.tugs (low_other room ship low high job.ship ne) (high_other room ship low high job.ship ne))

jobs_beyond : (room : RoomModel) (ship low high slot : ℕ) (jobs : List Job) → ((i : ℕ) (d : Job) → i < length jobs → ship < (get_or jobs i d).ship) → sum_by (forced_by (with_range room ship low high) slot) jobs ≡ sum_by (forced_by room slot) jobs
jobs_beyond room ship low high slot [] far = refl
jobs_beyond room ship low high slot (job ∷ jobs) far =
    let here : ship < job.ship = far 0 job (omega arith) in
    omega (
      arith,
      sum_by-cons (forced_by (with_range room ship low high) slot) job jobs,
      sum_by-cons (forced_by room slot) job jobs,
      other_job room ship low high slot job (λ e. omega (arith, e, here)),
      jobs_beyond room ship low high slot jobs (λ i d lt. far (suc i) d (omega (arith, lt))),
    )

in_rest : (jobs : List Job) (place : ℕ) (job : Job) → slice_get jobs place ≡ Some job → (place < length jobs) × (get_or jobs place job ≡ job)
in_rest [] place job e = absurd cc
in_rest (j ∷ js) zero job e = let same : j ≡ job = cc in (omega arith, same)
in_rest (j ∷ js) (suc place) job e = let r = in_rest js place job e in (omega (arith, r.0), r.1)

pub tugs_changed : (room : RoomModel) (slot low high place : ℕ) (jobs : List Job) (job : Job) → AllPairs (λ a b. a.ship < b.ship) jobs → slice_get jobs place ≡ Some job
    → sum_by (forced_by (with_range room job.ship low high) slot) jobs + forced_by room slot job ≡ sum_by (forced_by room slot) jobs + forced_by (with_range room job.ship low high) slot job
tugs_changed room slot low high place [] job up e = absurd cc
tugs_changed room slot low high zero (j ∷ js) job up e =
    let same : j ≡ job = cc in
    let a : forced_by (with_range room job.ship low high) slot j ≡ forced_by (with_range room job.ship low high) slot job = ap (forced_by (with_range room job.ship low high) slot) same in
    let b : forced_by room slot j ≡ forced_by room slot job = ap (forced_by room slot) same in
    let ship : j.ship ≡ job.ship = ap (λ (x : Job). x.ship) same in
    omega (
      arith,
      a,
      b,
      sum_by-cons (forced_by (with_range room job.ship low high) slot) j js,
      sum_by-cons (forced_by room slot) j js,
      jobs_beyond room job.ship low high slot js (λ i d lt. let l : j.ship < (get_or js i d).ship = up 0 (suc i) d (omega arith) (omega (arith, lt)) in omega (arith, l, ship)),
    )
tugs_changed room slot low high (suc place) (j ∷ js) job up e =
    let r = in_rest js place job e in
    let l : j.ship < (get_or js place job).ship = up 0 (suc place) job (omega arith) (omega (arith, r.0)) in
    let ship : (get_or js place job).ship ≡ job.ship = ap (λ (x : Job). x.ship) r.1 in
    omega (
      arith,
      sum_by-cons (forced_by (with_range room job.ship low high) slot) j js,
      sum_by-cons (forced_by room slot) j js,
      other_job room job.ship low high slot j (λ e. omega (arith, e, l, ship)),
      tugs_changed room slot low high place js job (rest j js up) e,
    )
