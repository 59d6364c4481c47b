-- What a ship may carry, as the levels of its window: values reach 1,000,000,000,000, so a window counts them in units.
use Rattle.std.specs.Prelude.{◌↔◌, ◌<◌, ℕ, ◌+◌, ◌-◌, ◌/◌, Bool, IsSome, is_none, nat_eq, if◌then◌else◌, Option, Some, None}
use Rattle.std.specs.List.{list_all, range_with_len}
use Rattle.hw_model.specs.Problem.{Problem, horizon, value_at}
use Rattle.hw_flat.specs.Carried.{worth}
use Rattle.hw_chart.specs.Figures.{greatest_level}

-- the most that a ship may carry in a slot in which ships sail
unfoldable pub most_carried : Problem → ℕ → ℕ
most_carried f ship = greatest_level (worth f ship) (horizon f)

-- the ship has no value in any slot in which ships sail
unfoldable pub sails_nowhere : Problem → ℕ → Bool
sails_nowhere f ship = list_all (λ slot. is_none (value_at f ship slot)) (range_with_len 0 (horizon f))

-- a window is at most a thousand units tall, and an eighth
abbrev pub unit_of : ℕ → ℕ
unit_of top = top / 1000 + 1

-- how tall a window is for a ship that carries this much at most
abbrev pub tall_of : ℕ → ℕ
tall_of top = top / unit_of top + top / unit_of top / 8 + 1

-- how far a value stays below the most; the foot of the window where there is none
abbrev pub value_level : ℕ → Option ℕ → ℕ
value_level top None = tall_of top
value_level top (Some value) = (top - value) / unit_of top

-- the top of the window where a value is the most, and otherwise its foot
abbrev pub most_level : ℕ → Option ℕ → ℕ
most_level top None = tall_of top
most_level top (Some value) = if nat_eq value top then 0 else tall_of top

-- a level is above the foot exactly where the ship has a value
abbrev pub BarsAreValues : Type 0
BarsAreValues = (f : Problem) (ship slot top : ℕ) → (value_level top (value_at f ship slot) < tall_of top) ↔ IsSome (value_at f ship slot)
