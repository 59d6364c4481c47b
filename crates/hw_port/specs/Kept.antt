-- What the parts of a port that keeps the meaning rules are like, as callers use it.
use Rattle.std.specs.Prelude.{◌≡◌, ◌≢◌, ◌↔◌, ◌⊎◌, ◌-◌, ◌<◌, ◌≤◌, ◌≤ℤ◌, ◌<ℤ◌, ℕ, ℤ, pos, negsuc, List, [], ◌∷◌, length, All, IfSome, IsSomeAnd, Some, None, true, slice_get, slice_index}
use Rattle.hw_port.specs.declared.parts.Waypoint.{Waypoint}
use Rattle.hw_port.specs.declared.parts.Section.{Section}
use Rattle.hw_port.specs.declared.parts.Pass.{Pass}
use Rattle.hw_port.specs.declared.parts.Stretch.{Stretch}
use Rattle.hw_port.specs.declared.parts.BerthPair.{BerthPair}
use Rattle.hw_port.specs.declared.parts.Closing.{Closing}
use Rattle.hw_port.specs.declared.parts.AfterPair.{AfterPair}
use Rattle.hw_port.specs.Parts.{ShipParts}
use Rattle.hw_port.specs.Whole.{Parts}
use Rattle.hw_port.specs.Rules.{outgoing, incoming, start_heights, least_heights}
use Rattle.hw_port.specs.Starts.{is_start}
use Rattle.hw_port.specs.Meaning.{ship_at, port_fault}

-- a number from low to high
pub record Within (lowest highest value : ℤ) : Type 0 where
  pub low : lowest ≤ℤ value
  pub high : value ≤ℤ highest

-- the place of one of `many` items
pub record IsPlace (many value : ℤ) : Type 0 where
  pub low : pos 0 ≤ℤ value
  pub below : value <ℤ many

-- `many` items, from the fewest to the most
pub record Counts (fewest most many : ℕ) : Type 0 where
  pub low : fewest ≤ many
  pub high : many ≤ most

-- a byte from the space to the tilde
abbrev pub IsPrintable : ℕ → Type 0
IsPrintable b = (32 ≤ b) × (b ≤ 126)

-- 1 to 40 printable bytes, of which neither the first nor the last is a space
pub record IsName (text : List ℕ) : Type 0 where
  pub size : Counts 1 40 (length text)
  pub printable : All IsPrintable text
  pub begins : slice_index text 0 ≢ 32
  pub ends : slice_index text (length text - 1) ≢ 32

-- one of the two directions
abbrev pub IsDirection : List ℕ → Type 0
IsDirection text = (text ≡ outgoing) ⊎ (text ≡ incoming)

-- one of the two ways to take the height of a slot
abbrev pub IsHeights : List ℕ → Type 0
IsHeights text = (text ≡ start_heights) ⊎ (text ≡ least_heights)

-- the text of a date and a time
abbrev pub IsStart : List ℕ → Type 0
IsStart text = is_start text ≡ true

-- the ship of this place sails in this direction
abbrev pub Sails : List ℕ → List ShipParts → ℤ → Type 0
Sails direction ships place = IsSomeAnd (ship_at ships place) (λ s. s.direction ≡ direction)

-- no two of these have the same name
abbrev pub Differ : {A : Type 0} → (A → List ℕ) → List A → Type 0
Differ {A} named xs = (i j : ℕ) (x y : A) → i < j → slice_get xs i ≡ Some x → slice_get xs j ≡ Some y → named x ≢ named y

-- both ends are slots below `many`, and the last isn't before the first
pub record ClosingKept (many : ℤ) (c : Closing) : Type 0 where
  pub from : IsPlace many c.from
  pub to : IsPlace many c.to
  pub order : c.from ≤ℤ c.to

-- at most `most` closings, each of slots below `many`
pub record ClosedKept (most : ℕ) (many : ℤ) (closings : List Closing) : Type 0 where
  pub size : Counts 0 most (length closings)
  pub each : All (ClosingKept many) closings

pub record WaypointKept (w : Waypoint) : Type 0 where
  pub name : IsName w.name
  pub depth : Within (pos 0) (pos 10000) w.depth
  pub closed : ClosedKept 32 (pos 1535) w.closed

abbrev pub SectionKept : Section → Type 0
SectionKept s = IsName s.name

-- the gaps after a ship, one for each class
pub record RowKept (classes : ℕ) (row : List ℤ) : Type 0 where
  pub size : length row ≡ classes
  pub gaps : All (Within (pos 1) (pos 512)) row

pub record PassKept (waypoints : ℤ) (p : Pass) : Type 0 where
  pub waypoint : IsPlace waypoints p.waypoint
  pub offset : Within (pos 0) (pos 1023) p.offset
  pub clearance : Within (pos 0) (pos 1000) p.clearance

pub record StretchKept (sections : ℤ) (s : Stretch) : Type 0 where
  pub section : IsPlace sections s.section
  pub enter : Within (pos 0) (pos 511) s.enter
  pub leave : Within (pos 1) (pos 512) s.leave
  pub order : s.enter <ℤ s.leave

-- each section stands above the one before
abbrev pub Ascends : ℤ → List Stretch → Type 0
Ascends before [] = Unit {0}
Ascends before (s ∷ ss) = (before <ℤ s.section) × Ascends s.section ss

-- the rules of a ship, field by field, as relations
pub record ShipKept (p : Parts) (s : ShipParts) : Type 0 where
  pub name : IsName s.name
  pub direction : IsDirection s.direction
  pub class : IsPlace (pos (length p.separation)) s.class
  pub earliest : IsPlace p.slots s.earliest
  pub latest : IsPlace p.slots s.latest
  pub window : s.earliest ≤ℤ s.latest
  pub tpc : Within (pos 0) (pos 3000) s.tpc
  pub light : Within (pos 0) (pos 10000) s.light
  pub deep : Within (pos 0) (pos 10000) s.deep
  pub load : s.light ≤ℤ s.deep
  pub passes : Counts 1 16 (length s.route)
  pub route : All (PassKept (pos (length p.waypoints))) s.route
  pub stretches : Counts 0 8 (length s.channel)
  pub channel : All (StretchKept (pos (length p.sections))) s.channel
  pub ascends : Ascends (negsuc 0) s.channel
  pub tugs : Within (pos 0) (pos 64) s.tugs
  pub job : Within (pos 1) (pos 512) s.job
  pub closed : ClosedKept 32 p.slots s.closed

-- the rules of a berth pair: an outgoing and an incoming ship, and the number of slots to clear
pub record BerthKept (ships : List ShipParts) (b : BerthPair) : Type 0 where
  pub outgoing_place : IsPlace (pos (length ships)) b.outgoing
  pub outgoing_side : Sails outgoing ships b.outgoing
  pub incoming_place : IsPlace (pos (length ships)) b.incoming
  pub incoming_side : Sails incoming ships b.incoming
  pub clear : Within (pos 1) (pos 512) b.clear

-- the rules of a pair of ships one after the other: two different ones, and the number of slots between them
pub record AfterKept (ships : ℤ) (a : AfterPair) : Type 0 where
  pub first : IsPlace ships a.first
  pub second : IsPlace ships a.second
  pub differ : a.first ≢ a.second
  pub gap : Within (pos 0) (pos 512) a.gap

-- the rules of a port, field by field, as relations
pub record PortKept (p : Parts) : Type 0 where
  pub version : Within (pos 1) (pos 3) p.version
  pub start : IfSome p.start IsStart
  pub slots : Within (pos 1) (pos 512) p.slots
  pub slot_minutes : Within (pos 1) (pos 1440) p.slot_minutes
  pub heights : IsHeights p.heights
  pub closed : ClosedKept 64 p.slots p.closed
  pub waypoint_count : Counts 1 16 (length p.waypoints)
  pub waypoints : All WaypointKept p.waypoints
  pub waypoint_names : Differ (λ w. w.name) p.waypoints
  pub section_count : Counts 0 8 (length p.sections)
  pub sections : All SectionKept p.sections
  pub section_names : Differ (λ s. s.name) p.sections
  pub class_count : Counts 1 8 (length p.separation)
  pub separation : All (RowKept (length p.separation)) p.separation
  pub turnaround_outgoing : Within (pos 0) (pos 512) p.turnaround.outgoing
  pub turnaround_incoming : Within (pos 0) (pos 512) p.turnaround.incoming
  pub fleet : Within (pos 0) (pos 1000) p.fleet
  pub ship_count : Counts 1 40 (length p.ships)
  pub ships : All (ShipKept p) p.ships
  pub ship_names : Differ (λ s. s.name) p.ships
  pub berth_count : Counts 0 200 (length p.berths)
  pub berths : All (BerthKept p.ships) p.berths
  pub after_count : Counts 0 200 (length p.after)
  pub after : All (AfterKept (pos (length p.ships))) p.after

-- parts have no fault exactly where they are kept
abbrev pub FaultlessIsKept : Type 0
FaultlessIsKept = (p : Parts) → ((port_fault p ≡ None) ↔ PortKept p)
