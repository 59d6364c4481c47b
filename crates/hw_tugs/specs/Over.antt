-- Slots in which a fleet is exceeded, and what is refuted there.
use Rattle.std.specs.Prelude.{◌≡◌, ℕ, ◌+◌, ◌<◌, ◌≤◌, min, max, List, length, slice_index, sum_by}
use Rattle.hw_model.specs.declared.rule.Job.{Job}
use Rattle.hw_model.specs.Rooms.{RoomModel, low_of, high_of}
use Rattle.hw_model.specs.Refuting.{forced_by}
use Rattle.hw_prop.specs.Reductions.{IsCut, IsQuiet}
use Rattle.hw_prop.specs.declared.reduction.Reduction.{Reduction}
use Rattle.hw_prop.specs.declared.reduction.Reduction.TheVariants.{Here, Lowest, Highest, First, NotFirst}
use Rattle.hw_tugs.specs.declared.cutting.Cut.{Cut}
use Rattle.hw_tugs.specs.declared.fleets.Fleets.{Fleets}
use Rattle.hw_tugs.specs.Fleets.{fleet_at}

-- with `more` more tugs the load exceeds the fleet of a slot of this part of the horizon
pub record IsOver (load : List ℕ) (fleets : Fleets) (more from to slot : ℕ) : Type 0 where
  pub from_in : from ≤ slot
  pub to_in : slot < to
  pub inside : slot < length load
  pub over : fleet_at fleets slot < slice_index load slot + more

-- the jobs certainly hold more tugs in a slot than this fleet has
abbrev pub OverAt : ℕ → List Job → ℕ → RoomModel → Type 0
OverAt fleet jobs slot room = fleet < sum_by (forced_by room slot) jobs

-- in some slot of the horizon they hold more than the fleet of that slot
abbrev pub Exceeding : Fleets → List Job → ℕ → RoomModel → Type 0
Exceeding fleets jobs horizon room = (slot : ℕ) × (slot < horizon) × OverAt (fleet_at fleets slot) jobs slot room

-- no reduction of the room exceeds a fleet
abbrev pub ExceedsNone : Fleets → List Job → ℕ → RoomModel → Type 0
ExceedsNone fleets jobs horizon room = IsQuiet (Exceeding fleets jobs horizon) room

-- neither as it is, nor at an end of its ship's range does a job exceed the fleet of a slot
pub record IsCalm (load : List ℕ) (fleets : Fleets) (room : RoomModel) (job : Job) : Type 0 where
  pub here : (slot : ℕ) → IsOver load fleets 0 (high_of room job.ship) (low_of room job.ship + job.hold) slot → ⊥
  pub lowest : (slot : ℕ) → IsOver load fleets job.tugs (low_of room job.ship) (min (high_of room job.ship) (low_of room job.ship + job.hold)) slot → ⊥
  pub highest : (slot : ℕ) → IsOver load fleets job.tugs (max (high_of room job.ship) (low_of room job.ship + job.hold)) (high_of room job.ship + job.hold) slot → ⊥

-- where a job exceeds the fleet of a slot: as it is, or at an end of its ship's range
abbrev pub Overfills : List ℕ → Fleets → RoomModel → Job → Reduction → ℕ → Type 0
Overfills load fleets room job Here slot = IsOver load fleets 0 (high_of room job.ship) (low_of room job.ship + job.hold) slot
Overfills load fleets room job (Lowest ship) slot = (ship ≡ job.ship) × IsOver load fleets job.tugs (low_of room job.ship) (min (high_of room job.ship) (low_of room job.ship + job.hold)) slot
Overfills load fleets room job (Highest ship) slot = (ship ≡ job.ship) × IsOver load fleets job.tugs (max (high_of room job.ship) (low_of room job.ship + job.hold)) (high_of room job.ship + job.hold) slot
Overfills load fleets room job (First v w) slot = ⊥
Overfills load fleets room job (NotFirst v w) slot = ⊥

-- a reduction of the room exceeds the fleet of a slot of the horizon
pub record CutsAt (fleets : Fleets) (jobs : List Job) (horizon : ℕ) (room : RoomModel) (cut : Cut) : Type 0 where
  pub inside : cut.slot < horizon
  pub refuted : IsCut (OverAt (fleet_at fleets cut.slot) jobs cut.slot) room cut.reduction
