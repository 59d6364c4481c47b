-- The heights at one slot, as contracts see them, and a whole tide.
use Rattle.std.specs.Prelude.{◌≡◌, ◌≤◌, ◌*◌, ◌+◌, ℕ, ℤ, pos, List, length, All}
use Rattle.std.specs.List.{slice_index_or}
use Rattle.hw_tide.specs.Twelfths.{InLimits}

-- a slot, with a height for each waypoint
pub record LevelsParts : Type 0 where
  pub slot : ℕ
  pub heights : List ℤ

-- heights row by row, a row for each slot from 0 on, with a column for each waypoint
pub record TideParts : Type 0 where
  pub rows : ℕ
  pub columns : ℕ
  pub heights : List ℤ

-- the height in a row and a column
abbrev pub height_at : TideParts → ℕ → ℕ → ℤ
height_at t row column = slice_index_or t.heights (row * t.columns + column) (pos 0)

-- the limits of a tide
pub record IsTide (t : TideParts) : Type 0 where
  pub some_row : 1 ≤ t.rows
  pub few_rows : t.rows ≤ 2_048
  pub each_height : length t.heights ≡ t.rows * t.columns
  pub small_heights : All InLimits t.heights

-- one of the slots, with a height within the limits for each of this many waypoints
pub record IsLevels (columns : ℕ) (l : LevelsParts) : Type 0 where
  pub few_slots : l.slot ≤ 2_047
  pub each_height : length l.heights ≡ columns
  pub small_heights : All InLimits l.heights
