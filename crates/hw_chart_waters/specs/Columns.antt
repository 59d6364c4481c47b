-- The tide at a waypoint, as a picture shows it.
use Rattle.std.specs.Prelude.{◌<◌, ◌≤◌, ℕ, ℤ}
use Rattle.hw_tide.specs.Levels.{TideParts, height_at}

-- the place of the waypoint, how many rows of the table and how many slots are shown, the minutes of a slot, and those from midnight to the first row
pub record ColumnParts : Type 0 where
  pub tide : TideParts
  pub place : ℕ
  pub rows : ℕ
  pub span : ℕ
  pub minutes : ℕ
  pub midnight : ℕ

-- the rows are in the table, and no more than the slots that are shown
pub record IsColumn (c : ColumnParts) : Type 0 where
  pub place_in : c.place < c.tide.columns
  pub rows_in : c.rows ≤ c.tide.rows
  pub within : c.rows ≤ c.span
  pub some : 0 < c.span
  pub few : c.span ≤ 1_535
  pub short : c.minutes ≤ 1_440
  pub same_day : c.midnight < 1_440

-- the height in a row
abbrev pub column_height : ColumnParts → ℕ → ℤ
column_height c row = height_at c.tide row c.place
