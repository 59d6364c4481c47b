-- All parts of a port, as contracts see them.
use Rattle.std.specs.Prelude.{ℕ, ℤ, List, Option}
use Rattle.hw_port.specs.Parts.{ShipParts}
use Rattle.hw_port.specs.declared.parts.Waypoint.{Waypoint}
use Rattle.hw_port.specs.declared.parts.Section.{Section}
use Rattle.hw_port.specs.declared.parts.Turnaround.{Turnaround}
use Rattle.hw_port.specs.declared.parts.BerthPair.{BerthPair}
use Rattle.hw_port.specs.declared.parts.Closing.{Closing}
use Rattle.hw_port.specs.declared.parts.AfterPair.{AfterPair}

-- a port: its numbers as whole ones, and its lists
pub record Parts : Type 0 where
  pub version : ℤ
  pub start : Option (List ℕ)
  pub slots : ℤ
  pub slot_minutes : ℤ
  pub heights : List ℕ
  pub closed : List Closing
  pub waypoints : List Waypoint
  pub sections : List Section
  pub separation : List (List ℤ)
  pub turnaround : Turnaround
  pub fleet : ℤ
  pub ships : List ShipParts
  pub berths : List BerthPair
  pub after : List AfterPair
