-- The tide of a table: the heights of each slot as they stand, or between two waters by twelfths.
use Rattle.std.specs.Prelude.{◌≡◌, ◌≤◌, ℕ, ℤ, ◌+◌, ◌-◌, All, List, [], ◌∷◌, length, Result, Ok, nat_lt, if◌then◌else◌}
use Rattle.std.specs.List.{slice_get, flat_map, range_with_len}
use Rattle.std.specs.Option.{option_map_or}
use Rattle.hw_lemmas.specs.Operators.{◌>>=◌}
use Rattle.hw_tide.specs.Twelfths.{height_between}
use Rattle.hw_tide.specs.Levels.{LevelsParts, TideParts, IsLevels}
use Rattle.hw_tide.specs.Table.{table_of}
use Rattle.hw_tide.specs.declared.fault.TideFault.{TideFault}
use Rattle.hw_tide.specs.declared.kind.TableKind.{TableKind}
use Rattle.hw_tide.specs.declared.kind.TableKind.TheVariants.{Heights, Waters}

-- the heights at `past` slots after a water whose next is `size` slots away
abbrev pub heights_between : ℕ → ℕ → List ℤ → List ℤ → List ℤ
heights_between past size [] highs = []
heights_between past size (low ∷ lows) [] = []
heights_between past size (low ∷ lows) (high ∷ highs) = height_between low high past size ∷ heights_between past size lows highs

-- the heights in a slot: between the last water up to it and the next one, or those of the last water
abbrev pub heights_in_slot : List LevelsParts → ℕ → List ℤ
heights_in_slot [] slot = []
heights_in_slot (water ∷ []) slot = water.heights
heights_in_slot (water ∷ next ∷ more) slot = if nat_lt slot next.slot then heights_between (slot - water.slot) (next.slot - water.slot) water.heights next.heights else heights_in_slot (next ∷ more) slot

-- the slot of a place, 0 past the end
abbrev pub slot_at : List LevelsParts → ℕ → ℕ
slot_at levels place = option_map_or (λ l. l.slot) (slice_get levels place) 0

-- the slots from 0 to the last one
abbrev pub row_count : List LevelsParts → ℕ
row_count levels = slot_at levels (length levels - 1) + 1

-- the tide of waters, or of heights
abbrev pub tide_from : TableKind → ℕ → List LevelsParts → TideParts
tide_from Waters columns levels = record { rows = row_count levels; columns = columns; heights = flat_map (heights_in_slot levels) (range_with_len 0 (row_count levels)) }
tide_from Heights columns levels = record { rows = length levels; columns = columns; heights = flat_map (λ l. l.heights) levels }

-- the tide of all records, or the first fault
unfoldable pub tide_of : TableKind → List (List ℕ) → List (List (List ℕ)) → Result TideParts TideFault
tide_of kind names records = do
  levels ← table_of kind names records
  Ok (tide_from kind (length names) levels)

-- what a table gives: slots from 0 on, each with a height for each of this many waypoints
pub record IsTable (kind : TableKind) (columns : ℕ) (levels : List LevelsParts) : Type 0 where
  pub some : 1 ≤ length levels
  pub begins : slot_at levels 0 ≡ 0
  pub each : All (IsLevels columns) levels
  pub few : kind ≡ Heights → length levels ≤ 2_048
