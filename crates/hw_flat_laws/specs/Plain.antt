-- Rules on tugs without steps, and the number of the steps of a rule.
use Rattle.std.specs.Prelude.{◌≡◌, ℕ, ◌<◌, ◌≤◌, List, [], length, All, AllPairs, nat_le, nat_lt, sum_by, find}
use Rattle.std.specs.List.{list_all, list_any, range_with_len}
use Rattle.hw_model.specs.declared.limits.TheConstants.{MOST_SLOTS}
use Rattle.hw_model.specs.declared.rule.Job.{Job}
use Rattle.hw_model.specs.declared.rule.Rule.TheVariants.{Tugs}
use Rattle.hw_model.specs.declared.rule.Step.{Step}
use Rattle.hw_model.specs.Limits.{StepFits}
use Rattle.hw_model.specs.Problem.{Problem, horizon}
use Rattle.hw_model.specs.Refuting.{Exceeds, forced_by}
use Rattle.hw_model.specs.RefutingComputed.{rule_refutes}
use Rattle.hw_model.specs.Rooms.{RoomModel}
use Rattle.hw_model.specs.Rules.{fleet_in, first_overfull, held_by, rule_holds}

-- these tugs exceed one fleet in some slot of the horizon
abbrev pub ExceedsOne : Problem → RoomModel → ℕ → List Job → Type 0
ExceedsOne f room fleet jobs = (slot : ℕ) × (slot < horizon f) × (fleet < sum_by (forced_by room slot) jobs)

-- a rule on tugs whose fleet has no steps is that on one fleet
pub record PlainTugs (f : Problem) (table : List ℕ) (room : RoomModel) (fleet : ℕ) (jobs : List Job) : Type 0 where
  pub each_slot : (slot : ℕ) → fleet_in fleet [] slot ≡ fleet
  pub holds : rule_holds f table (Tugs fleet [] jobs) ≡ list_all (λ slot. nat_le (sum_by (held_by table slot) jobs) fleet) (range_with_len 0 (horizon f))
  pub overfull : first_overfull f (Tugs fleet [] jobs) table ≡ find (λ slot. nat_lt fleet (sum_by (held_by table slot) jobs)) (range_with_len 0 (horizon f))
  pub refuted : rule_refutes f room (Tugs fleet [] jobs) ≡ list_any (λ slot. nat_lt fleet (sum_by (forced_by room slot) jobs)) (range_with_len 0 (horizon f))
  pub exceeds : Exceeds f room fleet [] jobs → ExceedsOne f room fleet jobs
  pub exceeded : ExceedsOne f room fleet jobs → Exceeds f room fleet [] jobs

abbrev pub PlainTugsAsBefore : Type 0
PlainTugsAsBefore = (f : Problem) (table : List ℕ) (room : RoomModel) (fleet : ℕ) (jobs : List Job) → PlainTugs f table room fleet jobs

-- a fleet has at most 511 steps: they ascend, and no step is in the first slot
abbrev pub FewSteps : Type 0
FewSteps = (sailing : ℕ) (later : List Step) → sailing ≤ MOST_SLOTS → All StepFits later → AllPairs (λ a b. a.from < b.from) later → All (λ step. step.from < sailing) later → length later ≤ 511
