-- The rows in which the water stands before it turns: high waters and low ones.
use Rattle.std.specs.Prelude.{◌<◌, ◌≤◌, ℕ, zero, suc, ◌+◌, ◌-◌, ℤ, int_lt, Bool, ◌&&◌, nat_lt, List, [], ◌∷◌, Option, Some, None, if◌then◌else◌}
use Rattle.std.specs.Ordering.{int_eq}
use Rattle.hw_chart_waters.specs.declared.stand.Stand.{Stand}
use Rattle.hw_chart_waters.specs.declared.stand.WaterKind.{WaterKind}
use Rattle.hw_chart_waters.specs.declared.stand.WaterKind.TheVariants.{High, Low}

-- above it at a high water, below it at a low one
abbrev pub is_beyond : WaterKind → ℤ → ℤ → Bool
is_beyond High height other = int_lt other height
is_beyond Low height other = int_lt height other

-- where the rows of this height end that follow one another from this one on, among this many
abbrev pub stand_end : (ℕ → ℤ) → ℤ → ℕ → ℕ → ℕ
stand_end height level row zero = row
stand_end height level row (suc more) = if int_eq (height row) level then stand_end height level (row + 1) more else row

-- there is a row before this one, whose height it lies beyond
abbrev pub stand_begins : WaterKind → (ℕ → ℤ) → ℕ → Bool
stand_begins kind height row = nat_lt 0 row && is_beyond kind (height row) (height (row - 1))

-- the end is a row that is shown, whose height this one lies beyond
abbrev pub stand_turns : WaterKind → (ℕ → ℤ) → ℕ → ℕ → ℕ → Bool
stand_turns kind height rows row end = nat_lt end rows && is_beyond kind (height row) (height end)

-- the rows of one height from this one on, if the water turns after them
abbrev pub stand_to : WaterKind → (ℕ → ℤ) → ℕ → ℕ → ℕ → Option Stand
stand_to kind height rows row end = if stand_turns kind height rows row end then Some (record { first = row; end = end }) else None

abbrev pub stand_from : WaterKind → (ℕ → ℤ) → ℕ → ℕ → Option Stand
stand_from kind height rows row = stand_to kind height rows row (stand_end height (height row) row (rows - row))

-- the same, if the water also turns before them
abbrev pub stand_at : WaterKind → (ℕ → ℤ) → ℕ → ℕ → Option Stand
stand_at kind height rows row = if stand_begins kind height row then stand_from kind height rows row else None

abbrev pub stand_before : Option Stand → List Stand → List Stand
stand_before None stands = stands
stand_before (Some stand) stands = stand ∷ stands

-- the stands that begin in this many rows from one on
abbrev pub stands_from : WaterKind → (ℕ → ℤ) → ℕ → ℕ → ℕ → List Stand
stands_from kind height rows row zero = []
stands_from kind height rows row (suc more) = stand_before (stand_at kind height rows row) (stands_from kind height rows (row + 1) more)

abbrev pub stands : WaterKind → (ℕ → ℤ) → ℕ → List Stand
stands kind height rows = stands_from kind height rows 0 rows

-- a stand has some rows, and a row before them and after them, of this many
pub record TurnsInside (rows : ℕ) (stand : Stand) : Type 0 where
  pub after : 0 < stand.first
  pub some : stand.first ≤ stand.end
  pub before : stand.end < rows
