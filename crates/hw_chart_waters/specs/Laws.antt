-- What high and low waters are, and where their labels stand.
use Rattle.std.specs.Prelude.{◌≡◌, ◌↔◌, ◌<◌, ◌≤◌, ◌+◌, ◌-◌, ℕ, ℤ, ◌<ℤ◌, Some, slice_get, Contains}
use Rattle.hw_chart_waters.specs.declared.stand.Stand.{Stand}
use Rattle.hw_chart_waters.specs.declared.stand.WaterKind.{WaterKind}
use Rattle.hw_chart_waters.specs.declared.stand.WaterKind.TheVariants.{High, Low}
use Rattle.hw_chart_waters.specs.Columns.{ColumnParts, column_height}
use Rattle.hw_chart_waters.specs.Labels.{label_of, named_stands}
use Rattle.hw_chart_waters.specs.Stands.{stands}

-- above it at a high water, below it at a low one
abbrev pub LiesBeyond : WaterKind → ℤ → ℤ → Type 0
LiesBeyond High height other = other <ℤ height
LiesBeyond Low height other = height <ℤ other

-- some rows of one height, and a row before them and one after them beyond whose heights it lies
pub record IsWater (kind : WaterKind) (height : ℕ → ℤ) (rows : ℕ) (s : Stand) : Type 0 where
  pub after : 0 < s.first
  pub some : s.first < s.end
  pub before : s.end < rows
  pub level : (row : ℕ) → s.first ≤ row → row < s.end → height row ≡ height s.first
  pub from : LiesBeyond kind (height s.first) (height (s.first - 1))
  pub to : LiesBeyond kind (height s.first) (height s.end)

-- the stands are exactly the waters
abbrev pub StandsAreWaters : Type 0
StandsAreWaters = (kind : WaterKind) (height : ℕ → ℤ) (rows : ℕ) (s : Stand) → Contains (stands kind height rows) s ↔ IsWater kind height rows s

-- each stand that is named in a line is a water of the column
abbrev pub LabelsAreWaters : Type 0
LabelsAreWaters = (c : ColumnParts) (kind : WaterKind) (s : Stand) → Contains (named_stands c kind) s → IsWater kind (column_height c) c.rows s

-- of two labels in a line the later one begins at least six units after the end of the earlier one
abbrev pub LabelsLieApart : Type 0
LabelsLieApart = (c : ColumnParts) (kind : WaterKind) (i j : ℕ) (a b : Stand) → i < j → slice_get (named_stands c kind) i ≡ Some a → slice_get (named_stands c kind) j ≡ Some b → (label_of c a).middle + (label_of c a).half + 6 + (label_of c b).half ≤ (label_of c b).middle

-- a label lies on the plot, which goes from 172 to 892
pub record IsOnPlot (c : ColumnParts) (s : Stand) : Type 0 where
  pub begins : 172 + (label_of c s).half ≤ (label_of c s).middle
  pub ends : (label_of c s).middle + (label_of c s).half ≤ 892

-- so does each that is no wider than the plot
abbrev pub LabelsLieOnPlot : Type 0
LabelsLieOnPlot = (c : ColumnParts) (s : Stand) → (label_of c s).half ≤ 360 → IsOnPlot c s
