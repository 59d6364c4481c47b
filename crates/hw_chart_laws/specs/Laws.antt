-- What whole pictures are, and what they say.
use Rattle.std.specs.Prelude.{◌≡◌, ◌↔◌, ◌<◌, ◌≤◌, ℕ, List, Option, Some, IsSome, slice_get}
use Rattle.hw_model.specs.declared.limits.TheConstants.{MOST_SLOTS}
use Rattle.hw_model.specs.Problem.{IsTimetable, Problem, horizon}
use Rattle.hw_port.specs.Kept.{PortKept}
use Rattle.hw_port.specs.Parts.{ShipParts}
use Rattle.hw_port.specs.Whole.{Parts}
use Rattle.hw_tide.specs.Levels.{TideParts}
use Rattle.hw_port_model.specs.Drafts.{sailing, value}
use Rattle.hw_port_model.specs.Timetables.{IsPortTimetable}
use Rattle.hw_chart.specs.declared.outcome.Outcome.{Outcome}
use Rattle.hw_chart_flat.specs.Pictures.{flat_picture}
use Rattle.hw_chart_port.specs.Charts.{ChartParts, tall_between}
use Rattle.hw_chart_port.specs.Drafts.{draft_level, fullness_level}
use Rattle.hw_chart_port.specs.Pictures.{port_picture}
use Rattle.hw_chart_laws.specs.Trees.{IsPicture}
use Rattle.hw_port_windows.specs.Statuses.{full_draft}

-- the picture of a flat problem is one element of trees, with a timetable or without one, whatever was proved
abbrev pub FlatPicturesAreTrees : Type 0
FlatPicturesAreTrees = (f : Problem) (table : Option (List ℕ)) (outcome : Outcome) → IsPicture (flat_picture f table outcome)

-- and so is that of a port's plan, whatever the names are
abbrev pub PortPicturesAreTrees : Type 0
PortPicturesAreTrees = (p : Parts) (h : TideParts) (table : Option (List ℕ)) (outcome : Outcome) → IsPicture (port_picture p h table outcome)

-- two timetables of a flat problem that have the same picture are the same, whatever was proved of them
abbrev pub FlatPlansReadBack : Type 0
FlatPlansReadBack = (f : Problem) (table other : List ℕ) (outcome later : Outcome) → horizon f ≤ MOST_SLOTS → IsTimetable f table → IsTimetable f other → flat_picture f (Some table) outcome ≡ flat_picture f (Some other) later → table ≡ other

-- and so are two timetables of a port
abbrev pub PortPlansReadBack : Type 0
PortPlansReadBack = (p : Parts) (h : TideParts) (table other : List ℕ) (outcome later : Outcome) → PortKept p → IsPortTimetable p table → IsPortTimetable p other → port_picture p h (Some table) outcome ≡ port_picture p h (Some other) later → table ≡ other

-- the foot of a ship's window
abbrev pub foot_of : ShipParts → ℕ
foot_of s = tall_between s.light (full_draft s)

-- the level of a slot among the drafts of a ship
abbrev pub bar_level : ChartParts → ℕ → ShipParts → ℕ → ℕ
bar_level chart v s slot = draft_level chart v (full_draft s) (foot_of s) slot

-- the same among its full drafts
abbrev pub level_of_full_draft : ChartParts → ℕ → ShipParts → ℕ → ℕ
level_of_full_draft chart v s slot = fullness_level chart v (full_draft s) (foot_of s) slot

-- a bar stands above the foot of a ship's window exactly in the slots in which the port lets the ship sail
abbrev pub BarsAreSlots : Type 0
BarsAreSlots = (chart : ChartParts) (v slot : ℕ) (s : ShipParts) → PortKept chart.port → slice_get chart.port.ships v ≡ Some s → (bar_level chart v s slot < foot_of s) ↔ IsSome (value chart.port chart.tide v slot)

-- a full bar reaches the top exactly in the slots in which the ship sails with its full draft
abbrev pub FullBarsAreFullDrafts : Type 0
FullBarsAreFullDrafts = (chart : ChartParts) (v slot : ℕ) (s : ShipParts) → (level_of_full_draft chart v s slot ≡ 0) ↔ (sailing chart.port chart.tide v slot ≡ Some (full_draft s))
