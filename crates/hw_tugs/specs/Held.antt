-- The tugs that jobs certainly hold, by the ranges of their ships.
use Rattle.std.specs.Prelude.{◌≡◌, ℕ, ◌+◌, ◌<◌, ◌&&◌, nat_le, nat_lt, if◌then◌else◌, List, [], ◌∷◌, length, slice_index, slice_index_or, sum_by}
use Rattle.hw_model.specs.declared.rule.Job.{Job}
use Rattle.hw_model.specs.Rooms.{RoomModel}
use Rattle.hw_model.specs.Refuting.{forced_by}
use Rattle.hw_prop.specs.Plain.{range_of}

-- tugs that are held from one slot on, before another
abbrev pub tugs_within : ℕ → ℕ → ℕ → ℕ → ℕ
tugs_within from to tugs slot = if nat_le from slot && nat_lt slot to then tugs else 0

-- the tugs that a job holds in a slot wherever in this range its ship sails
abbrev pub held_for : Job → ℕ × ℕ → ℕ → ℕ
held_for job range slot = tugs_within range.1 (range.0 + job.hold) job.tugs slot

-- the tugs that jobs hold in a slot wherever in these ranges, one for each job, their ships sail
abbrev pub held_for_sure : List Job → List (ℕ × ℕ) → ℕ → ℕ
held_for_sure [] ranges slot = 0
held_for_sure (job ∷ jobs) [] slot = 0
held_for_sure (job ∷ jobs) (range ∷ ranges) slot = held_for job range slot + held_for_sure jobs ranges slot

-- a range for each job, and in each slot the tugs that they certainly hold
pub record IsLoad (jobs : List Job) (seen : List (ℕ × ℕ)) (load : List ℕ) : Type 0 where
  pub each_job : length seen ≡ length jobs
  pub told : (slot : ℕ) → slot < length load → slice_index load slot ≡ held_for_sure jobs seen slot

-- the ranges are those of the jobs' ships in a room
abbrev pub Sees : RoomModel → List Job → List (ℕ × ℕ) → Type 0
Sees room jobs seen = (place : ℕ) (job : Job) → place < length jobs → slice_index_or seen place (0, 0) ≡ range_of room (slice_index_or jobs place job).ship

-- the same of the first `many` jobs
abbrev pub SeesFirst : ℕ → RoomModel → List Job → List (ℕ × ℕ) → Type 0
SeesFirst many room jobs seen = (place : ℕ) (job : Job) → place < many → slice_index_or seen place (0, 0) ≡ range_of room (slice_index_or jobs place job).ship

-- in each slot the tugs that the jobs certainly hold in a room
abbrev pub IsForced : List Job → RoomModel → List ℕ → Type 0
IsForced jobs room load = (slot : ℕ) → slot < length load → slice_index load slot ≡ sum_by (forced_by room slot) jobs
