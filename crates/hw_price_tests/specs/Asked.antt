-- What is asked of all rules of a problem, and which rules may answer.
use Rattle.std.specs.Prelude.{◌⊎◌, ℕ, ◌+◌, ◌<◌, ◌≤◌, List, None, length, sum_by, All, IsTrue}
use Rattle.hw_model.specs.declared.rule.Job.{Job}
use Rattle.hw_model.specs.declared.rule.Step.{Step}
use Rattle.hw_model.specs.declared.source.Source.TheVariants as sources
use Rattle.hw_model.specs.Narrowing.{with_range}
use Rattle.hw_model.specs.Problem.{Problem, horizon, shape_of}
use Rattle.hw_model.specs.Quiet.{names_ship}
use Rattle.hw_model.specs.Rooms.{RoomModel, low_of, high_of, whole_room}
use Rattle.hw_model.specs.Refuting.{Refutes, forced_by}
use Rattle.hw_model.specs.Rules.{fleet_in}
use Rattle.hw_price_laws.specs.declared.toll.Block.{Block}
use Rattle.hw_price_laws.specs.Tolls.{two_blocks}

-- there is a rule at this place, and it refutes the room
abbrev pub PlaceRefutes : Problem → ℕ → RoomModel → Type 0
PlaceRefutes f place room = (place < length f.rules) × Refutes f (sources.Rule place) None room

-- some rule refutes the room
abbrev pub SomeRuleRefutes : Problem → RoomModel → Type 0
SomeRuleRefutes f room = (place : ℕ) × (place < length f.rules) × Refutes f (sources.Rule place) None room

-- ---- tugs

-- the tugs that are surely held in this slot of the horizon exceed a fleet
abbrev pub ExceedsIn : Problem → RoomModel → ℕ → List Job → ℕ → Type 0
ExceedsIn f room fleet jobs slot = (slot < horizon f) × (fleet < sum_by (forced_by room slot) jobs)

-- in the slot the job holds its tugs wherever in its range its ship sails
abbrev pub HoldsIn : RoomModel → Job → ℕ → Type 0
HoldsIn room job slot = (high_of room job.ship ≤ slot) × (slot < low_of room job.ship + job.hold)

-- in some slot the job holds its tugs wherever in its range its ship sails
abbrev pub HoldsSomewhere : RoomModel → Job → Type 0
HoldsSomewhere room job = high_of room job.ship < low_of room job.ship + job.hold

-- where a ship's range ends in which it surely holds its tugs, the tugs don't exceed the fleet of that slot
abbrev pub ExceedsAtNoEnd : Problem → RoomModel → ℕ → List Step → List Job → Type 0
ExceedsAtNoEnd f room fleet later jobs = All (λ job. HoldsSomewhere room job → ExceedsIn f room (fleet_in fleet later (high_of room job.ship)) jobs (high_of room job.ship) → ⊥) jobs

-- ---- two blocks

-- the room in which a ship lies in its block and all else is open
abbrev pub one_block : Problem → Block → RoomModel
one_block f a = with_range (whole_room (shape_of f)) a.ship a.low a.high

-- a rule that refutes two blocks of different ships names both ships, or refutes one of the blocks alone
abbrev pub NamedOrAlone : Type 0
NamedOrAlone = (f : Problem) (a b : Block) (place : ℕ) → a.ship < b.ship → b.ship < f.ships → Refutes f (sources.Rule place) None (two_blocks f a b)
    → (IsTrue (names_ship f (sources.Rule place) a.ship) × IsTrue (names_ship f (sources.Rule place) b.ship)) ⊎ (Refutes f (sources.Rule place) None (one_block f a) ⊎ Refutes f (sources.Rule place) None (one_block f b))
