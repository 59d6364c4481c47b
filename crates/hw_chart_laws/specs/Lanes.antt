-- The blocks in the window of a section, and who occupies it when.
use Rattle.std.specs.Prelude.{◌≡◌, ◌↔◌, ◌<◌, ◌≤◌, ◌+◌, ℕ, pos, Bool, true, false, nat_eq, if◌then◌else◌, List, [], ◌∷◌, ◌++◌, Some, Contains}
use Rattle.hw_port.specs.declared.parts.Stretch.{Stretch}
use Rattle.hw_port.specs.Kept.{PortKept}
use Rattle.hw_port.specs.Parts.{ShipParts}
use Rattle.hw_port.specs.Whole.{Parts}
use Rattle.hw_tide.specs.Levels.{TideParts}
use Rattle.hw_port_model.specs.Numbers.{is_outgoing, whole}
use Rattle.hw_port_model.specs.Permitted.{Occupies, PortPermits}
use Rattle.hw_port_model.specs.Timetables.{SailsIn}
use Rattle.hw_chart.specs.declared.course.Course.{Course}
use Rattle.hw_chart.specs.declared.course.Course.TheVariants.{Unplanned, Stays, Sails}
use Rattle.hw_chart_port.specs.declared.lane.Stay.{Stay}
use Rattle.hw_chart_port.specs.Charts.{ChartParts, course}
use Rattle.hw_chart_port.specs.Lanes.{stay_mark, stay_of, stays_from}
use Rattle.hw_chart_port.specs.Pictures.{chart_of}

-- a ship, and how long it stays in a section
pub record Block : Type 0 where
  pub ship : ShipParts
  pub stay : Stay

-- the block of a stretch, where it is one of this section
abbrev pub stretch_block : ChartParts → ℕ → ShipParts → ℕ → Stretch → List Block
stretch_block chart place s slot stretch = if nat_eq (whole stretch.section) place then record { ship = s; stay = stay_of chart s slot stretch } ∷ [] else []

abbrev pub stretch_blocks : ChartParts → ℕ → ShipParts → ℕ → List Stretch → List Block
stretch_blocks chart place s slot [] = []
stretch_blocks chart place s slot (stretch ∷ more) = stretch_block chart place s slot stretch ++ stretch_blocks chart place s slot more

-- the blocks of a ship that sails
abbrev pub course_blocks : ChartParts → ℕ → ShipParts → Course → List Block
course_blocks chart place s Unplanned = []
course_blocks chart place s Stays = []
course_blocks chart place s (Sails slot) = stretch_blocks chart place s slot s.channel

-- those of the ships from this number on
abbrev pub blocks_from : ChartParts → ℕ → ℕ → List ShipParts → List Block
blocks_from chart place v [] = []
blocks_from chart place v (s ∷ more) = course_blocks chart place s (course chart v) ++ blocks_from chart place (v + 1) more

abbrev pub blocks_in : ChartParts → ℕ → List Block
blocks_in chart place = blocks_from chart place 0 chart.port.ships

abbrev pub stay_marks_text : List ℕ → List Block → List ℕ
stay_marks_text section [] = []
stay_marks_text section (block ∷ more) = stay_mark block.ship section block.stay ++ stay_marks_text section more

-- what is drawn over the ground of a section's window are its blocks
abbrev pub LanesAreBlocks : Type 0
LanesAreBlocks = (chart : ChartParts) (place : ℕ) (section : List ℕ) → stays_from chart place section 0 chart.port.ships ≡ stay_marks_text section (blocks_in chart place)

-- ships that go out have the upper half of the window, ships that come in the lower one
abbrev pub lane_of : Bool → ℕ
lane_of true = 0
lane_of false = 1

-- a block in this half of the window of a section reaches over a slot
pub record Covers (chart : ChartParts) (place : ℕ) (out : Bool) (slot : ℕ) : Type 0 where
  pub block : Block
  pub listed : Contains (blocks_in chart place) block
  pub half : block.stay.lane ≡ lane_of out
  pub begun : block.stay.from ≤ slot
  pub not_over : slot < block.stay.until

-- a ship that goes out, or one that comes in, occupies the section in a slot
pub record IsOccupied (p : Parts) (table : List ℕ) (place : ℕ) (out : Bool) (slot : ℕ) : Type 0 where
  pub number : ℕ
  pub ship : ShipParts
  pub at : ℕ
  pub sails : SailsIn p table number ship at
  pub direction : is_outgoing ship ≡ out
  pub there : Occupies ship at (pos place) slot

-- blocks stand over a slot exactly where ships of that direction occupy the section then. So where ships of both directions would meet, there is a block in each half of the window
abbrev pub BlocksAreOccupations : Type 0
BlocksAreOccupations = (p : Parts) (h : TideParts) (table : List ℕ) (place : ℕ) (out : Bool) (slot : ℕ) → PortKept p → Covers (chart_of p h (Some table)) place out slot ↔ IsOccupied p table place out slot

-- where the port permits the timetable, no slot has a block in both halves
abbrev pub OneWayIsSeen : Type 0
OneWayIsSeen = (p : Parts) (h : TideParts) (table : List ℕ) (place slot : ℕ) → PortKept p → PortPermits p h table → Covers (chart_of p h (Some table)) place true slot → Covers (chart_of p h (Some table)) place false slot → ⊥
