-- Where the parts of a picture stand, one below another.
use Rattle.std.specs.Prelude.{◌≡◌, ◌≢◌, ◌⊎◌, ◌<◌, ◌≤◌, ◌+◌, ◌-◌, ◌*◌, ℕ, List, Option, Some, None, IfSome, length}
use Rattle.hw_model.specs.Problem.{Problem}
use Rattle.hw_port.specs.Whole.{Parts}
use Rattle.hw_chart_flat.specs.Fleets.{fleets}
use Rattle.hw_chart_flat.specs.Pictures.{flat_picture_bottom, panels_y}
use Rattle.hw_chart_flat.specs.Rows.{planned_row, row_top as flat_row_y, unplanned_row}
use Rattle.hw_chart_port.specs.Charts.{ChartParts}
use Rattle.hw_chart_port.specs.Heads.{places}
use Rattle.hw_chart_port.specs.Lanes.{lane_y}
use Rattle.hw_chart_port.specs.Rows.{row_y}
use Rattle.hw_chart.specs.Layout.{rank_in}
use Rattle.hw_chart_port.specs.Strips.{place_y}

-- the tide at a waypoint, the row of a ship, the lane of a section, or a panel of tugs
pub data Part : Type 0 where
  tide : ℕ → Part
  row : ℕ → Part
  lane : ℕ → Part
  panel : ℕ → Part

-- from a line of the picture to before another one
pub record Band : Type 0 where
  pub top : ℕ
  pub bottom : ℕ

-- this many lines from one on
abbrev pub band_of_lines : ℕ → ℕ → Band
band_of_lines y count = record { top = y; bottom = y + count }

-- as far as the stripe of a row reaches: from the line above it
abbrev pub stripe_band : ℕ → Band
stripe_band y = record { top = y - 1; bottom = y + 41 }

-- two bands share no line
abbrev pub LieApart : Band → Band → Type 0
LieApart a b = (a.bottom ≤ b.top) ⊎ (b.bottom ≤ a.top)

-- parts stand below the marks of the grid, which end at line 120, and down to a bottom, and no two of them share a line
pub record AreArranged (IsPart : Part → Type 0) (band : Part → Band) (bottom : ℕ) : Type 0 where
  pub inside : (a : Part) → IsPart a → (120 ≤ (band a).top) × ((band a).bottom ≤ bottom)
  pub apart : (a b : Part) → IsPart a → IsPart b → a ≢ b → LieApart (band a) (band b)

-- ---- the picture of a port

abbrev pub IsPortPart : Parts → Part → Type 0
IsPortPart p (tide place) = place < length p.waypoints
IsPortPart p (row ship) = ship < length p.ships
IsPortPart p (lane section) = section < length p.sections
IsPortPart p (panel fleet) = fleet ≡ 0

-- a part is as tall as its window; a tide has a line of text over it and one below it, a row its stripe
abbrev pub port_band : ChartParts → Part → Band
port_band chart (tide place) = band_of_lines (place_y place - 14) 68
port_band chart (row ship) = stripe_band (row_y chart (rank_in chart.table ship))
port_band chart (lane section) = band_of_lines (lane_y chart section) 18
port_band chart (panel fleet) = band_of_lines (places chart.port).tugs 56

-- the tides, the rows of the ships, the lanes and the tugs share no line, whatever the timetable is
abbrev pub PortPartsLieApart : Type 0
PortPartsLieApart = (chart : ChartParts) → IfSome chart.table (λ table. length table ≡ length chart.port.ships) → AreArranged (IsPortPart chart.port) (port_band chart) (places chart.port).bottom

-- ---- the picture of a flat problem, which has no tides and no sections

abbrev pub IsFlatPart : Problem → Part → Type 0
IsFlatPart f (tide place) = ⊥
IsFlatPart f (row ship) = ship < f.ships
IsFlatPart f (lane section) = ⊥
IsFlatPart f (panel fleet) = fleet < length (fleets f)

-- where the row of a ship stands, with a timetable or without one
abbrev pub ship_y : Problem → Option (List ℕ) → ℕ → ℕ
ship_y f None ship = flat_row_y (unplanned_row f ship)
ship_y f (Some table) ship = flat_row_y (planned_row f table ship)

abbrev pub flat_band : Problem → Option (List ℕ) → Part → Band
flat_band f table (tide place) = band_of_lines 0 0
flat_band f table (row ship) = stripe_band (ship_y f table ship)
flat_band f table (lane section) = band_of_lines 0 0
flat_band f table (panel fleet) = band_of_lines (panels_y f + 66 * fleet) 56

-- the rows of the ships and the panels of tugs share no line, whatever the timetable is
abbrev pub FlatPartsLieApart : Type 0
FlatPartsLieApart = (f : Problem) (table : Option (List ℕ)) → IfSome table (λ slots. length slots ≡ f.ships) → AreArranged (IsFlatPart f) (flat_band f table) (flat_picture_bottom f)
