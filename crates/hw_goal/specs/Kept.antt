-- What is kept of the ships' greatest values.
use Rattle.std.specs.Prelude.{◌≡◌, ◌⊎◌, ℕ, ◌<◌, ◌≤◌, List, length, sum_by, slice_index_or}
use Rattle.hw_model.specs.declared.limits.TheConstants.{MOST_VALUE}
use Rattle.hw_model.specs.Problem.{Problem}
use Rattle.hw_model.specs.Rooms.{RoomModel, low_of, high_of}
use Rattle.hw_flat.specs.Carried.{worth}
use Rattle.hw_goal.specs.declared.tops.Peak.{Peak}
use Rattle.hw_goal.specs.declared.tops.Top.{Top}
use Rattle.hw_goal.specs.declared.tops.Figures.{Figures}

-- a slot of the range that has its greatest value
pub record IsPeak (f : Problem) (ship low high : ℕ) (peak : Peak) : Type 0 where
  pub above : low ≤ peak.slot
  pub below : peak.slot ≤ high
  pub told : worth f ship peak.slot ≡ peak.value
  pub most : (slot : ℕ) → low ≤ slot → slot ≤ high → worth f ship slot ≤ peak.value

-- the first, if it has at least the value of the second, else the second
abbrev pub IsHigher : Peak → Peak → Peak → Type 0
IsHigher one other most = ((most ≡ one) × (other.value ≤ one.value)) ⊎ ((most ≡ other) × (one.value ≤ other.value))

-- a range of the problem's slots with its greatest value, and at least the greatest value of all slots
pub record IsTop (f : Problem) (ship : ℕ) (top : Top) : Type 0 where
  pub ordered : top.low ≤ top.high
  pub in_slots : top.high < f.slots
  pub peak : IsPeak f ship top.low top.high top.peak
  pub row : (slot : ℕ) → slot < f.slots → worth f ship slot ≤ top.row
  pub small : top.row ≤ MOST_VALUE

-- what is kept of a ship
abbrev pub top_at : List Top → ℕ → Top
top_at tops ship = slice_index_or tops ship (record { low = 0; high = 0; peak = record { slot = 0; value = 0 }; row = 0 })

-- what is kept of the first ships is right for the ranges that they were last seen with, and the sum is that of their values
pub record AreKept (f : Problem) (ships : ℕ) (figures : Figures) : Type 0 where
  pub size : length figures.tops.items ≡ ships
  pub each : (ship : ℕ) → ship < ships → IsTop f ship (top_at figures.tops.items ship)
  pub sum : figures.sum ≡ sum_by (λ top. top.peak.value) figures.tops.items

-- a ship was last seen with this range
abbrev pub SeenAt : Figures → ℕ → ℕ → ℕ → Type 0
SeenAt figures ship low high = ((top_at figures.tops.items ship).low ≡ low) × ((top_at figures.tops.items ship).high ≡ high)

-- the first ships were last seen with their ranges in the room
abbrev pub SeenIn : RoomModel → ℕ → Figures → Type 0
SeenIn room ships figures = (ship : ℕ) → ship < ships → SeenAt figures ship (low_of room ship) (high_of room ship)
