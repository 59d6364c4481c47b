-- What a port's picture says, in the words of the port's rules.
use Rattle.std.specs.Prelude.{◌≡◌, ◌↔◌, ◌<◌, ◌≤◌, ◌≤ℤ◌, ℕ, true, List, Some, IfSome, slice_set}
use Rattle.hw_model.specs.Problem.{IsTimetable}
use Rattle.hw_port.specs.Kept.{PortKept}
use Rattle.hw_port.specs.Parts.{ShipParts}
use Rattle.hw_port.specs.Whole.{Parts}
use Rattle.hw_tide.specs.Levels.{TideParts}
use Rattle.hw_port_model.specs.Numbers.{horizon_of, whole}
use Rattle.hw_port_model.specs.Drafts.{sailing_draft}
use Rattle.hw_port_model.specs.Permitted.{PortPermits}
use Rattle.hw_port_model.specs.Flattened.{flattened}
use Rattle.hw_chart_port.specs.Fleets.{tugs_held_in}
use Rattle.hw_chart_port.specs.Moves.{could_move}
use Rattle.hw_port_windows.specs.Statuses.{full_draft}

-- a sailing draft lies between the light and the full one, so that a level lies in its window
abbrev pub SailsBetween : Type 0
SailsBetween = (p : Parts) (h : TideParts) (s : ShipParts) (slot : ℕ) → s.light ≤ℤ s.deep → IfSome (sailing_draft p h s slot) (λ d. (s.light ≤ℤ d) × (d ≤ℤ full_draft s))

-- a ship could move to a slot exactly where the port permits the timetable with that slot for it
abbrev pub MovesArePermitted : Type 0
MovesArePermitted = (p : Parts) (h : TideParts) (table : List ℕ) (ship slot : ℕ) → PortKept p → IsTimetable (flattened p h) table → slot < horizon_of p → (could_move p h (Some table) ship slot ≡ true) ↔ PortPermits p h (slice_set table ship slot)

-- where the port permits the timetable, its ships never hold more tugs than there are
abbrev pub FleetAlwaysSuffices : Type 0
FleetAlwaysSuffices = (p : Parts) (h : TideParts) (table : List ℕ) (slot : ℕ) → PortPermits p h table → slot < horizon_of p → tugs_held_in p table slot ≤ whole p.fleet
