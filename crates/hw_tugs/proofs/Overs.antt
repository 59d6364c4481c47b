-- What a room's reductions do to the tugs certainly held, and where a rule on tugs is quiet.
use Rattle.std.proofs.Common.{◌≡◌, ◌≢◌, ℕ, zero, suc, ◌+◌, ◌<◌, ◌≤◌, List, [], ◌∷◌, Some, slice_get, length, get_or, sum_by, refl, sym, ap, subst, ◌∙◌, arith, inl, inr}
use Rattle.std.specs.Prelude.{◌⊎◌, All, AllPairs}
use Rattle.std.proofs.lemmas.Bool.{cases_eq, cases_lt}
use Rattle.std.proofs.lemmas.Bool.Decides.{nat_tests}
use Rattle.std.proofs.lemmas.List.Elements.{All-head, All-tail}
use Rattle.std.proofs.lemmas.List.Sums.{sum_by-cons}
use Rattle.hw_model.specs.declared.rule.Job.{Job}
use Rattle.hw_model.specs.Limits.{JobFits}
use Rattle.hw_model.specs.Rooms.{RoomModel, IsRoom, low_of, high_of}
use Rattle.hw_model.specs.Narrowing.{with_range}
use Rattle.hw_model.specs.Refuting.{forced_by}
use Rattle.hw_model_laws.proofs.Sums.{tugs_changed}
use Rattle.hw_prop.specs.Plain.{range_of}
use Rattle.hw_prop.specs.Reductions.{reduced, IsQuiet, IsCut}
use Rattle.hw_prop.specs.declared.reduction.Reduction.{Reduction}
use Rattle.hw_prop.specs.declared.reduction.Reduction.TheVariants.{Here, Lowest, Highest, First, NotFirst}
use Rattle.hw_prop.proofs.Reading.{range_put, range_put_other}
use Rattle.hw_tugs.specs.declared.fleets.Fleets.{Fleets}
use Rattle.hw_tugs.specs.Fleets.{fleet_at}
use Rattle.hw_tugs.specs.Held.{tugs_within, held_for, IsForced}
use Rattle.hw_tugs.specs.Over.{OverAt, Exceeding, IsCalm, Overfills}

-- ---- one job's tugs_within where its range is reduced to an end
lowest_more : (low high hold tugs s : ℕ) → low ≤ s → s < high → s < low + hold → tugs_within low (low + hold) tugs s ≡ tugs_within high (low + hold) tugs s + tugs
lowest_more low high hold tugs s p q l = grind (arith, nat_tests)

lowest_same : (low high hold tugs s : ℕ) → low ≤ high → (s < low) ⊎ ((high ≤ s) ⊎ (low + hold ≤ s)) → tugs_within low (low + hold) tugs s ≡ tugs_within high (low + hold) tugs s
lowest_same low high hold tugs s p (inl a) = grind (arith, nat_tests)
lowest_same low high hold tugs s p (inr (inl a)) = grind (arith, nat_tests)
lowest_same low high hold tugs s p (inr (inr a)) = grind (arith, nat_tests)

highest_more : (low high hold tugs s : ℕ) → high ≤ s → low + hold ≤ s → s < high + hold → tugs_within high (high + hold) tugs s ≡ tugs_within high (low + hold) tugs s + tugs
highest_more low high hold tugs s p q l = grind (arith, nat_tests)

highest_same : (low high hold tugs s : ℕ) → low ≤ high → (s < high) ⊎ ((s < low + hold) ⊎ (high + hold ≤ s)) → tugs_within high (high + hold) tugs s ≡ tugs_within high (low + hold) tugs s
highest_same low high hold tugs s p (inl a) = grind (arith, nat_tests)
highest_same low high hold tugs s p (inr (inl a)) = grind (arith, nat_tests)
highest_same low high hold tugs s p (inr (inr a)) = grind (arith, nat_tests)

none_held : (from to tugs s : ℕ) → (from ≤ s → s < to → ⊥) → tugs_within from to tugs s ≡ 0
none_held from to tugs s none = elim (cases_lt s from) [
  | inl a ↦ none_before from to tugs s a
  | inr a ↦ elim (cases_lt s to) [
    | inl b ↦ absurd (none a b)
    | inr b ↦ none_later from to tugs s b
  ]
]
  where
    none_before : (from to tugs s : ℕ) → s < from → tugs_within from to tugs s ≡ 0
    none_before from to tugs s a = grind (arith, nat_tests)

    none_later : (from to tugs s : ℕ) → to ≤ s → tugs_within from to tugs s ≡ 0
    none_later from to tugs s a = grind (arith, nat_tests)

-- ---- the load of a room where one range is set
pub put_load : (jobs : List Job) (room : RoomModel) (place : ℕ) (job : Job) (low high s : ℕ) → AllPairs (λ a b. a.ship < b.ship) jobs → slice_get jobs place ≡ Some job → job.ship < length room.ranges
    → sum_by (forced_by (with_range room job.ship low high) s) jobs + held_for job (range_of room job.ship) s ≡ sum_by (forced_by room s) jobs + held_for job (low, high) s
put_load jobs room place job low high s up at inside =
    tugs_changed room s low high place jobs job up at
    ∙ ap (λ n. sum_by (forced_by room s) jobs + n) (ap (λ (r : ℕ × ℕ). held_for job r s) (range_put room job.ship low high inside))

else_load : (jobs : List Job) (room : RoomModel) (ship low high s : ℕ) → ((place : ℕ) (job : Job) → slice_get jobs place ≡ Some job → job.ship ≢ ship) → sum_by (forced_by (with_range room ship low high) s) jobs ≡ sum_by (forced_by room s) jobs
else_load [] room ship low high s none = refl
else_load (job ∷ jobs) room ship low high s none =
    let same : forced_by (with_range room ship low high) s job ≡ forced_by room s job = ap (λ (r : ℕ × ℕ). held_for job r s) (range_put_other room ship low high job.ship (none 0 job refl)) in
    omega (
      arith,
      same,
      sum_by-cons (forced_by (with_range room ship low high) s) job jobs,
      sum_by-cons (forced_by room s) job jobs,
      else_load jobs room ship low high s (λ place other e. none (suc place) other e),
    )

-- a job of a ship, or none
record Found (ship : ℕ) (jobs : List Job) : Type 0 where
  place : ℕ
  job : Job
  at : slice_get jobs place ≡ Some job
  own : job.ship ≡ ship

abbrev NoJob : ℕ → List Job → Type 0
NoJob ship jobs = (place : ℕ) (job : Job) → slice_get jobs place ≡ Some job → job.ship ≢ ship

none_more : (ship : ℕ) (job : Job) (jobs : List Job) → job.ship ≢ ship → NoJob ship jobs → NoJob ship (job ∷ jobs)
none_more ship job jobs ne none zero other e = let same : job ≡ other = cc in λ own. ne (ap (λ (j : Job). j.ship) same ∙ own)
none_more ship job jobs ne none (suc place) other e = none place other e

find_job : (ship : ℕ) (jobs : List Job) → Found ship jobs ⊎ NoJob ship jobs
find_job ship [] = inr (λ place job e. absurd cc)
find_job ship (job ∷ jobs) =
    elim (cases_eq job.ship ship) [
      | inl e ↦ inl (record { place = 0; job = job; at = refl; own = e })
      | inr ne ↦ elim (find_job ship jobs) [
        | inl f ↦ inl (record { place = suc f.place; job = f.job; at = f.at; own = f.own })
        | inr none ↦ inr (none_more ship job jobs ne none)
      ]
    ]

at_all : (P : Job → Type 0) (jobs : List Job) (place : ℕ) (job : Job) → slice_get jobs place ≡ Some job → All P jobs → P job
at_all P [] place job e all = absurd cc
at_all P (j ∷ js) zero job e all = let same : j ≡ job = cc in subst P same (All-head P j js all)
at_all P (j ∷ js) (suc place) job e all = at_all P js place job e (All-tail P j js all)

-- either some job that may hold a slot is calm there, or none holds it
few_or_none : (jobs : List Job) (load : List ℕ) (fleets : Fleets) (room : RoomModel) (s : ℕ) → s < length load → All (IsCalm load fleets room) jobs → (get_or load s 0 ≤ fleet_at fleets s) ⊎ (sum_by (forced_by room s) jobs ≡ 0)
few_or_none [] load fleets room s lt all = inr refl
few_or_none (job ∷ jobs) load fleets room s lt all =
    elim (cases_lt (fleet_at fleets s) (get_or load s 0)) [
      | inr le ↦ inl le
      | inl over ↦ elim (few_or_none jobs load fleets room s lt (All-tail (IsCalm load fleets room) job jobs all)) [
        | inl le ↦ inl le
        | inr none ↦
            let calm = All-head (IsCalm load fleets room) job jobs all in
            let zero_here : forced_by room s job ≡ 0 =
            none_held (high_of room job.ship) (low_of room job.ship + job.hold) job.tugs s (λ a b. calm.here s (record { from_in = omega arith; to_in = b; inside = lt; over = omega (arith, over) })) in
            inr (omega (arith, zero_here, none, sum_by-cons (forced_by room s) job jobs))
      ]
    ]

module _ (jobs : List Job) (load : List ℕ) (fleets : Fleets) (room : RoomModel) (is : IsRoom room) (fit : All (JobFits room.ships) jobs) (up : AllPairs (λ a b. a.ship < b.ship) jobs) (forced : IsForced jobs room load) where
  ship_in : (place : ℕ) (job : Job) → slice_get jobs place ≡ Some job → job.ship < length room.ranges
  ship_in place job at = omega (arith, is.each_ship, (at_all (JobFits room.ships) jobs place job at fit).ship_in)

  ordered : (place : ℕ) (job : Job) → slice_get jobs place ≡ Some job → low_of room job.ship ≤ high_of room job.ship
  ordered place job at = is.ordered job.ship (0, 0) (ship_in place job at)

  abbrev now : ℕ → ℕ
  now s = sum_by (forced_by room s) jobs

  abbrev at_low : Job → ℕ → ℕ
  at_low job s = sum_by (forced_by (reduced (Lowest job.ship) room) s) jobs

  abbrev at_high : Job → ℕ → ℕ
  at_high job s = sum_by (forced_by (reduced (Highest job.ship) room) s) jobs

  low_load : (place : ℕ) (job : Job) (s : ℕ) → slice_get jobs place ≡ Some job → at_low job s + tugs_within (high_of room job.ship) (low_of room job.ship + job.hold) job.tugs s ≡ now s + tugs_within (low_of room job.ship) (low_of room job.ship + job.hold) job.tugs s
  low_load place job s at = put_load jobs room place job (low_of room job.ship) (low_of room job.ship) s up at (ship_in place job at)

  high_load : (place : ℕ) (job : Job) (s : ℕ) → slice_get jobs place ≡ Some job → at_high job s + tugs_within (high_of room job.ship) (low_of room job.ship + job.hold) job.tugs s ≡ now s + tugs_within (high_of room job.ship) (high_of room job.ship + job.hold) job.tugs s
  high_load place job s at = put_load jobs room place job (high_of room job.ship) (high_of room job.ship) s up at (ship_in place job at)

  -- 1. what a job overfills is a cut
  pub job_cuts : (place : ℕ) (job : Job) (c : Reduction) (s : ℕ) → slice_get jobs place ≡ Some job → s < length load → Overfills load fleets room job c s → IsCut (OverAt (fleet_at fleets s) jobs s) room c
  job_cuts place job Here s at lt o = record { may = tt; refuted = omega (arith, o.over, forced s lt) }
  job_cuts place job (Lowest ship) s at lt o =
      let low = low_of room job.ship in
      let high = high_of room job.ship in
      let below : s < high = omega (arith, o.1.to_in) in
      let held : s < low + job.hold = omega (arith, o.1.to_in) in
      let P : ℕ → Type 0 = λ u. fleet_at fleets s < sum_by (forced_by (reduced (Lowest u) room) s) jobs in
      record {
        may = omega (arith, o.0, (at_all (JobFits room.ships) jobs place job at fit).ship_in);
        refuted = subst P (sym o.0) (omega (arith, o.1.over, forced s lt, low_load place job s at, lowest_more low high job.hold job.tugs s o.1.from_in below held));
      }
  job_cuts place job (Highest ship) s at lt o =
      let low = low_of room job.ship in
      let high = high_of room job.ship in
      let above : high ≤ s = omega (arith, o.1.from_in) in
      let free : low + job.hold ≤ s = omega (arith, o.1.from_in) in
      let P : ℕ → Type 0 = λ u. fleet_at fleets s < sum_by (forced_by (reduced (Highest u) room) s) jobs in
      record {
        may = omega (arith, o.0, (at_all (JobFits room.ships) jobs place job at fit).ship_in);
        refuted = subst P (sym o.0) (omega (arith, o.1.over, forced s lt, high_load place job s at, highest_more low high job.hold job.tugs s above free o.1.to_in));
      }
  job_cuts place job (First v w) s at lt o = absurd o
  job_cuts place job (NotFirst v w) s at lt o = absurd o

  -- 2. where each job is calm, nothing is refuted
  here_few : All (IsCalm load fleets room) jobs → (s : ℕ) → s < length load → now s ≤ fleet_at fleets s
  here_few all s lt = elim (few_or_none jobs load fleets room s lt all) [
    | inl le ↦ omega (arith, le, forced s lt)
    | inr none ↦ omega (arith, none)
  ]

  low_few : All (IsCalm load fleets room) jobs → (place : ℕ) (job : Job) (s : ℕ) → slice_get jobs place ≡ Some job → s < length load → at_low job s ≤ fleet_at fleets s
  low_few all place job s at lt =
      let low = low_of room job.ship in
      let high = high_of room job.ship in
      let same : (s < low) ⊎ ((high ≤ s) ⊎ (low + job.hold ≤ s)) → at_low job s ≤ fleet_at fleets s =
      λ o. omega (arith, low_load place job s at, lowest_same low high job.hold job.tugs s (ordered place job at) o, here_few all s lt) in
      elim (cases_lt s low) [
        | inl a ↦ same (inl a)
        | inr a ↦ elim (cases_lt s high) [
          | inr b ↦ same (inr (inl b))
          | inl b ↦ elim (cases_lt s (low + job.hold)) [
            | inr c ↦ same (inr (inr c))
            | inl c ↦ elim (cases_lt (fleet_at fleets s) (get_or load s 0 + job.tugs)) [
              | inl over ↦ absurd ((at_all (IsCalm load fleets room) jobs place job at all).lowest s (record { from_in = a; to_in = omega (arith, b, c); inside = lt; over = over }))
              | inr le ↦ omega (arith, le, forced s lt, low_load place job s at, lowest_more low high job.hold job.tugs s a b c)
            ]
          ]
        ]
      ]

  high_few : All (IsCalm load fleets room) jobs → (place : ℕ) (job : Job) (s : ℕ) → slice_get jobs place ≡ Some job → s < length load → at_high job s ≤ fleet_at fleets s
  high_few all place job s at lt =
      let low = low_of room job.ship in
      let high = high_of room job.ship in
      let same : (s < high) ⊎ ((s < low + job.hold) ⊎ (high + job.hold ≤ s)) → at_high job s ≤ fleet_at fleets s =
      λ o. omega (arith, high_load place job s at, highest_same low high job.hold job.tugs s (ordered place job at) o, here_few all s lt) in
      elim (cases_lt s high) [
        | inl a ↦ same (inl a)
        | inr a ↦ elim (cases_lt s (low + job.hold)) [
          | inl b ↦ same (inr (inl b))
          | inr b ↦ elim (cases_lt s (high + job.hold)) [
            | inr c ↦ same (inr (inr c))
            | inl c ↦ elim (cases_lt (fleet_at fleets s) (get_or load s 0 + job.tugs)) [
              | inl over ↦ absurd ((at_all (IsCalm load fleets room) jobs place job at all).highest s (record { from_in = omega (arith, a, b); to_in = c; inside = lt; over = over }))
              | inr le ↦ omega (arith, le, forced s lt, high_load place job s at, highest_more low high job.hold job.tugs s a b c)
            ]
          ]
        ]
      ]

  pub all_quiet : All (IsCalm load fleets room) jobs → IsQuiet (Exceeding fleets jobs (length load)) room
  all_quiet all Here i f = omega (arith, f.2, here_few all f.0 f.1)
  all_quiet all (First v w) i f = omega (arith, f.2, here_few all f.0 f.1)
  all_quiet all (NotFirst v w) i f = omega (arith, f.2, here_few all f.0 f.1)
  all_quiet all (Lowest ship) i f = elim (find_job ship jobs) [
    | inl k ↦
        let P : ℕ → Type 0 = λ u. sum_by (forced_by (reduced (Lowest u) room) f.0) jobs ≤ fleet_at fleets f.0 in
        omega (arith, f.2, subst P k.own (low_few all k.place k.job f.0 k.at f.1))
    | inr none ↦ omega (arith, f.2, else_load jobs room ship (low_of room ship) (low_of room ship) f.0 none, here_few all f.0 f.1)
  ]
  all_quiet all (Highest ship) i f = elim (find_job ship jobs) [
    | inl k ↦
        let P : ℕ → Type 0 = λ u. sum_by (forced_by (reduced (Highest u) room) f.0) jobs ≤ fleet_at fleets f.0 in
        omega (arith, f.2, subst P k.own (high_few all k.place k.job f.0 k.at f.1))
    | inr none ↦ omega (arith, f.2, else_load jobs room ship (high_of room ship) (high_of room ship) f.0 none, here_few all f.0 f.1)
  ]

-- an overfilled slot is one of the horizon
pub cut_slot : (load : List ℕ) (fleets : Fleets) (room : RoomModel) (job : Job) (c : Reduction) (s : ℕ) → Overfills load fleets room job c s → s < length load
cut_slot load fleets room job Here s o = o.inside
cut_slot load fleets room job (Lowest ship) s o = o.1.inside
cut_slot load fleets room job (Highest ship) s o = o.1.inside
cut_slot load fleets room job (First v w) s o = absurd o
cut_slot load fleets room job (NotFirst v w) s o = absurd o
