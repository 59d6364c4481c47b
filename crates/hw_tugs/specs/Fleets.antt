-- The fleet of each slot.
use Rattle.std.specs.Prelude.{◌≡◌, ℕ, ◌<◌, ◌≤◌, List, slice_index_or}
use Rattle.hw_model.specs.declared.rule.Step.{Step}
use Rattle.hw_model.specs.Rules.{fleet_in}
use Rattle.hw_tugs.specs.declared.fleets.Fleets.{Fleets}

-- the fleet of a slot: that of its hour, where hours are told
abbrev pub fleet_at : Fleets → ℕ → ℕ
fleet_at fleets slot = slice_index_or fleets.hours.items slot fleets.fleet

-- no slot has fewer tugs than the least
abbrev pub IsLeast : Fleets → Type 0
IsLeast fleets = (slot : ℕ) → fleets.least ≤ fleet_at fleets slot

-- the fleet of each slot of the horizon is that of a rule with steps
abbrev pub TellsEach : ℕ → ℕ → List Step → Fleets → Type 0
TellsEach horizon fleet later fleets = (slot : ℕ) → slot < horizon → fleet_at fleets slot ≡ fleet_in fleet later slot

-- these are the fleets of a rule
pub record TellsFleet (horizon fleet : ℕ) (later : List Step) (fleets : Fleets) : Type 0 where
  pub least : IsLeast fleets
  pub tells : TellsEach horizon fleet later fleets
