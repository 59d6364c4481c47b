-- Jobs surely hold the most tugs in a slot in which the range of one of them ends; and the fleet is least where a step begins.
use Rattle.std.proofs.Common.{◌≡◌, ◌⊎◌, ℕ, ◌+◌, ◌<◌, ◌≤◌, cond, ◌&&◌, nat_lt, nat_le, List, [], ◌∷◌, length, get_or, sum_by, All, Any, Bool, true, false, nat_eq, IsTrue, ◌↔◌, refl, sym, ◌∙◌, subst, arith, inl, inr}
use Rattle.std.proofs.lemmas.Bool.{cases_lt, eqb-true}
use Rattle.std.proofs.lemmas.Bool.Decides.{nat_tests}
use Rattle.std.proofs.lemmas.List.Elements.{All-nil, All-cons, All-head, All-tail}
use Rattle.std.proofs.lemmas.List.Sums.{sum_by-cons}
use Rattle.hw_model.specs.declared.rule.Job.{Job}
use Rattle.hw_model.specs.declared.rule.Step.{Step}
use Rattle.hw_model.specs.Problem.{Problem, horizon}
use Rattle.hw_model.specs.Rooms.{RoomModel, low_of, high_of}
use Rattle.hw_model.specs.Refuting.{Exceeds, forced_by}
use Rattle.hw_model.specs.Rules.{fleet_in}
use Rattle.hw_model_laws.proofs.Counting.{sum_le}
use Rattle.hw_price_tests.specs.Asked.{ExceedsIn, ExceedsAtNoEnd, HoldsIn, HoldsSomewhere}
use Rattle.hw_price_tests.proofs.Hours.{Ascend, at_step, last_step}

-- a job that surely holds a slot, where its range ends last of these: what they hold in the slot they hold where it ends
record Latest (Q : Job → Type 0) (room : RoomModel) (slot : ℕ) (jobs : List Job) : Type 0 where
  job : Job
  kept : Q job
  ends : high_of room job.ship ≤ slot
  holds : slot < low_of room job.ship + job.hold
  most : All (λ other. forced_by room slot other ≤ forced_by room (high_of room job.ship) other) jobs

none_held : (low high slot hold tugs : ℕ) → (high ≤ slot → slot < low + hold → ⊥) → cond (nat_le high slot && nat_lt slot (low + hold)) tugs 0 ≡ 0
none_held low high slot hold tugs unheld = grind (arith, nat_tests, unheld)

held_earlier : (low high slot end hold tugs : ℕ) → high ≤ end → end ≤ slot → cond (nat_le high slot && nat_lt slot (low + hold)) tugs 0 ≤ cond (nat_le high end && nat_lt end (low + hold)) tugs 0
held_earlier low high slot end hold tugs a b = grind (arith, nat_tests)

held_between : (low high slot before end hold tugs : ℕ) → before ≤ end → end ≤ slot → cond (nat_le high slot && nat_lt slot (low + hold)) tugs 0 ≤ cond (nat_le high before && nat_lt before (low + hold)) tugs 0
    → cond (nat_le high slot && nat_lt slot (low + hold)) tugs 0 ≤ cond (nat_le high end && nat_lt end (low + hold)) tugs 0
held_between low high slot before end hold tugs a b h = grind (arith, nat_tests)

still : (room : RoomModel) (slot before end : ℕ) (jobs : List Job) → before ≤ end → end ≤ slot → All (λ other. forced_by room slot other ≤ forced_by room before other) jobs → All (λ other. forced_by room slot other ≤ forced_by room end other) jobs
still room slot before end jobs a b all = λ i d lt.
    let job : Job = get_or jobs i d in
    held_between (low_of room job.ship) (high_of room job.ship) slot before end job.hold job.tugs a b (all i d lt)

-- none of the jobs surely holds the slot, or one of them is such a job
latest : (Q : Job → Type 0) (room : RoomModel) (slot : ℕ) (jobs : List Job) → All Q jobs → All (λ other. forced_by room slot other ≡ 0) jobs ⊎ Latest Q room slot jobs
latest Q room slot [] all = inl (All-nil (λ other. forced_by room slot other ≡ 0))
latest Q room slot (job ∷ jobs) all =
    let rest : All (λ other. forced_by room slot other ≡ 0) jobs ⊎ Latest Q room slot jobs = latest Q room slot jobs (All-tail Q job jobs all) in
    elim (cases_lt slot (high_of room job.ship)) [
      | inl past ↦ missing (none_held (low_of room job.ship) (high_of room job.ship) slot job.hold job.tugs (λ a b. omega (arith, past, a))) rest
      | inr started ↦ elim (cases_lt slot (low_of room job.ship + job.hold)) [
        | inl holding ↦ inr (held started holding rest)
        | inr over ↦ missing (none_held (low_of room job.ship) (high_of room job.ship) slot job.hold job.tugs (λ a b. omega (arith, over, b))) rest
      ]
    ]
  where
    missing : forced_by room slot job ≡ 0 → All (λ other. forced_by room slot other ≡ 0) jobs ⊎ Latest Q room slot jobs → All (λ other. forced_by room slot other ≡ 0) (job ∷ jobs) ⊎ Latest Q room slot (job ∷ jobs)
    missing zero (inl none) = inl (All-cons (λ other. forced_by room slot other ≡ 0) job jobs zero none)
    missing zero (inr top) = inr (record {
      job = top.job;
      kept = top.kept;
      ends = top.ends;
      holds = top.holds;
      most = All-cons (λ other. forced_by room slot other ≤ forced_by room (high_of room top.job.ship) other) job jobs (omega (arith, zero)) top.most;
    })

    here : (end : ℕ) → high_of room job.ship ≤ end → end ≤ slot → forced_by room slot job ≤ forced_by room end job
    here end a b = held_earlier (low_of room job.ship) (high_of room job.ship) slot end job.hold job.tugs a b

    zeros : (end : ℕ) → All (λ other. forced_by room slot other ≡ 0) jobs → All (λ other. forced_by room slot other ≤ forced_by room end other) jobs
    zeros end none = λ i d lt. omega (arith, none i d lt)

    held : high_of room job.ship ≤ slot → slot < low_of room job.ship + job.hold → All (λ other. forced_by room slot other ≡ 0) jobs ⊎ Latest Q room slot jobs → Latest Q room slot (job ∷ jobs)
    held started holding (inl none) = record {
      job = job;
      kept = All-head Q job jobs all;
      ends = started;
      holds = holding;
      most = All-cons (λ other. forced_by room slot other ≤ forced_by room (high_of room job.ship) other) job jobs (here (high_of room job.ship) (omega arith) started) (zeros (high_of room job.ship) none);
    }
    held started holding (inr top) = elim (cases_lt (high_of room top.job.ship) (high_of room job.ship)) [
      | inl later ↦ record {
        job = job;
        kept = All-head Q job jobs all;
        ends = started;
        holds = holding;
        most = All-cons (λ other. forced_by room slot other ≤ forced_by room (high_of room job.ship) other) job jobs (here (high_of room job.ship) (omega arith) started) (still room slot (high_of room top.job.ship) (high_of room job.ship) jobs (omega (arith, later)) started top.most);
      }
      | inr earlier ↦ record {
        job = top.job;
        kept = top.kept;
        ends = top.ends;
        holds = top.holds;
        most = All-cons (λ other. forced_by room slot other ≤ forced_by room (high_of room top.job.ship) other) job jobs (here (high_of room top.job.ship) earlier top.ends) top.most;
      }
    ]

sum_zero : {X : Type 0} (g : X → ℕ) (xs : List X) → All (λ x. g x ≡ 0) xs → sum_by g xs ≡ 0
sum_zero g [] all = refl
sum_zero g (x ∷ xs) all = omega (arith, All-head (λ x. g x ≡ 0) x xs all, sum_zero g xs (All-tail (λ x. g x ≡ 0) x xs all), sum_by-cons g x xs)

-- in a slot in which no job surely holds its tugs, none are held
none_forced : (room : RoomModel) (slot : ℕ) (jobs : List Job) → All (λ job. HoldsIn room job slot → ⊥) jobs → sum_by (forced_by room slot) jobs ≡ 0
none_forced room slot jobs none = sum_zero (forced_by room slot) jobs (λ i d lt.
    let job : Job = get_or jobs i d in
    none_held (low_of room job.ship) (high_of room job.ship) slot job.hold job.tugs (λ a b. none i d lt (a, b)))

-- tugs that exceed a step's fleet where it begins are held there by some job
pub no_step : (f : Problem) (room : RoomModel) (later : List Step) (jobs : List Job)
    → ((k : ℕ) (d : Job) (i : ℕ) (e : Step) → k < length jobs → i < length later → HoldsIn room (get_or jobs k d) (get_or later i e).from → ExceedsIn f room (get_or later i e).fleet jobs (get_or later i e).from → ⊥)
    → Any (λ step. ExceedsIn f room step.fleet jobs step.from) later → ⊥
no_step f room later jobs none s =
    let here : ExceedsIn f room (get_or later s.0 s.1).fleet jobs (get_or later s.0 s.1).from = subst (λ step. ExceedsIn f room step.fleet jobs step.from) (sym s.3) s.4 in
    let zero : sum_by (forced_by room (get_or later s.0 s.1).from) jobs ≡ 0 = none_forced room (get_or later s.0 s.1).from jobs (λ k d lt holds. none k d s.0 s.1 lt s.2 holds here) in
    omega (arith, here.1, zero)

-- tugs that exceed a step's fleet where it begins exceed the rule's fleet of that slot
pub at_some_step : (f : Problem) (room : RoomModel) (fleet : ℕ) (later : List Step) (jobs : List Job) → Ascend later → Any (λ step. ExceedsIn f room step.fleet jobs step.from) later → Exceeds f room fleet later jobs
at_some_step f room fleet later jobs ascend s =
    let now : fleet_in fleet later s.1.from ≡ s.1.fleet = subst (λ step. fleet_in fleet later step.from ≡ step.fleet) s.3 (at_step fleet later s.0 s.1 ascend s.2) in
    let more : s.1.fleet < sum_by (forced_by room s.1.from) jobs = s.4.1 in
    (s.1.from, s.4.0, omega (arith, now, more))

-- so tugs that exceed the fleet of some slot do so where the range of a job ends that holds its tugs there, or where a step begins
pub nowhere : (f : Problem) (room : RoomModel) (fleet : ℕ) (later : List Step) (jobs : List Job) → Ascend later → ExceedsAtNoEnd f room fleet later jobs → (Any (λ step. ExceedsIn f room step.fleet jobs step.from) later → ⊥) → Exceeds f room fleet later jobs → ⊥
nowhere f room fleet later jobs ascend none no_begin h = elim (latest (λ job. HoldsSomewhere room job → ExceedsIn f room (fleet_in fleet later (high_of room job.ship)) jobs (high_of room job.ship) → ⊥) room h.0 jobs none) [
  | inl zero ↦
      let more : fleet_in fleet later h.0 < sum_by (forced_by room h.0) jobs = h.2 in
      absurd (omega (arith, more, sum_zero (forced_by room h.0) jobs zero))
  | inr top ↦
      let more : fleet_in fleet later h.0 < sum_by (forced_by room h.0) jobs = h.2 in
      let inside : h.0 < horizon f = h.1 in
      let end : ℕ = high_of room top.job.ship in
      elim (last_step fleet later (high_of room top.job.ship) h.0 ascend top.ends) [
        | inl same ↦ top.kept (omega (arith, top.ends, top.holds)) (omega (arith, inside, top.ends), omega (arith, more, same, sum_le (forced_by room h.0) (forced_by room end) jobs top.most))
        | inr s ↦
            let held : sum_by (forced_by room h.0) jobs ≤ sum_by (forced_by room s.1.from) jobs = sum_le (forced_by room h.0) (forced_by room s.1.from) jobs (still room h.0 (high_of room top.job.ship) s.1.from jobs (omega (arith, s.4.0)) s.4.1 top.most) in
            no_begin (s.0, s.1, s.2, s.3, (omega (arith, s.4.1, inside), omega (arith, s.4.2, more, held)))
      ]
]

-- what tells whether a step is exceeded tells of all slots, where no end is exceeded
pub told_by_steps : (f : Problem) (room : RoomModel) (fleet : ℕ) (later : List Step) (jobs : List Job) (b : Bool) → Ascend later → ExceedsAtNoEnd f room fleet later jobs → (IsTrue b ↔ Any (λ step. ExceedsIn f room step.fleet jobs step.from) later) → (IsTrue b ↔ Exceeds f room fleet later jobs)
told_by_steps f room fleet later jobs b ascend none means = (λ t. at_some_step f room fleet later jobs ascend (means.0 t), back b means.1)
  where
    back : (b : Bool) → (Any (λ step. ExceedsIn f room step.fleet jobs step.from) later → IsTrue b) → Exceeds f room fleet later jobs → IsTrue b
    back true told h = refl
    back false told h = absurd (nowhere f room fleet later jobs ascend none (λ s. clash (told s)) h)
      where
        clash : false ≡ true → ⊥
        clash e = cc

-- without steps none is exceeded
pub without_steps : (f : Problem) (room : RoomModel) (fleet : ℕ) (later : List Step) (jobs : List Job) (b : Bool) → Ascend later → b ≡ nat_eq (length later) 0 → b ≡ true → ExceedsAtNoEnd f room fleet later jobs → Exceeds f room fleet later jobs → ⊥
without_steps f room fleet later jobs b ascend is none ends h =
    let empty : length later ≡ 0 = eqb-true (length later) 0 (sym is ∙ none) in
    nowhere f room fleet later jobs ascend ends (λ s. absurd (omega (arith, s.2, empty))) h
