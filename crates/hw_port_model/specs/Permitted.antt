-- The rules of a port: which timetables it permits, and what they carry.
use Rattle.std.specs.Prelude.{◌≡◌, ◌≢◌, ◌⊎◌, ℕ, ◌+◌, ◌<◌, ◌≤◌, ℤ, ◌&&◌, nat_le, nat_lt, if◌then◌else◌, List, [], ◌∷◌, Option, Some, IsSome, IsTrue, All, Contains, sum_by, zip}
use Rattle.hw_model.specs.Timetables.{plus}
use Rattle.hw_port.specs.declared.parts.Stretch.{Stretch}
use Rattle.hw_port.specs.declared.parts.BerthPair.{BerthPair}
use Rattle.hw_port.specs.declared.parts.AfterPair.{AfterPair}
use Rattle.hw_port.specs.Parts.{ShipParts}
use Rattle.hw_port.specs.Whole.{Parts}
use Rattle.hw_tide.specs.Levels.{TideParts}
use Rattle.hw_port_model.specs.Numbers.{whole, horizon_of, SameDirection, OppositeDirection, separation_of, hold_of}
use Rattle.hw_port_model.specs.Drafts.{ship_value}
use Rattle.hw_port_model.specs.Timetables.{IsPortTimetable, IsGiven, SailsIn, slot_of}

-- a ship that sails in slot `at` occupies a section in a slot: from `at + enter` up to but not including `at + leave`
pub record Occupies (s : ShipParts) (at : ℕ) (section : ℤ) (slot : ℕ) : Type 0 where
  pub stretch : Stretch
  pub uses : Contains s.channel stretch
  pub there : stretch.section ≡ section
  pub entered : at + whole stretch.enter ≤ slot
  pub not_left : slot < at + whole stretch.leave

-- the second of two ships sails at least the separation of the two after the first
abbrev pub KeepsSeparation : Parts → ShipParts → ℕ → ShipParts → ℕ → Type 0
KeepsSeparation p first at second later = at + whole (separation_of p first second) ≤ later

-- a ship that stays has this slot
abbrev pub Stays : Parts → ℕ → Type 0
Stays p slot = slot ≡ horizon_of p

-- the incoming ship of a pair stays; or neither stays, and the outgoing one sails at least `clear` slots before it
abbrev pub BerthIsCleared : Parts → List ℕ → BerthPair → Type 0
BerthIsCleared p table b = Stays p (slot_of table b.incoming) ⊎ ((slot_of table b.outgoing < horizon_of p) × (slot_of table b.incoming < horizon_of p) × (slot_of table b.outgoing + whole b.clear ≤ slot_of table b.incoming))

-- the second ship of a pair stays; or neither stays, and the first one sails at least `gap` slots before it
abbrev pub SailsAfter : Parts → List ℕ → AfterPair → Type 0
SailsAfter p table a = Stays p (slot_of table a.second) ⊎ ((slot_of table a.first < horizon_of p) × (slot_of table a.second < horizon_of p) × (slot_of table a.first + whole a.gap ≤ slot_of table a.second))

-- the tugs that a ship with this slot holds in a slot: none where it stays
abbrev pub tugs_held : Parts → ℕ → ShipParts × ℕ → ℕ
tugs_held p slot given = if nat_lt given.1 (horizon_of p) && (nat_le given.1 slot && nat_lt slot (given.1 + hold_of p given.0)) then whole given.0.tugs else 0

-- the port permits a timetable
pub record PortPermits (p : Parts) (h : TideParts) (table : List ℕ) : Type 0 where
  pub listed : IsPortTimetable p table
  -- each ship has a value in its slot, or stays and may
  pub sails : (v : ℕ) (s : ShipParts) (at : ℕ) → IsGiven p table v s at → IsSome (ship_value p h s at) ⊎ (Stays p at × IsTrue s.may_stay)
  -- in no slot, past the horizon too, do two ships of opposite direction both occupy one section
  pub sections : (v w : ℕ) (s r : ShipParts) (at other : ℕ) → SailsIn p table v s at → SailsIn p table w r other → OppositeDirection s r → (section : ℤ) (slot : ℕ) → Occupies s at section slot → Occupies r other section slot → ⊥
  -- of two ships of the same direction one sails its separation before the other
  pub separated : (v w : ℕ) (s r : ShipParts) (at other : ℕ) → v ≢ w → SailsIn p table v s at → SailsIn p table w r other → SameDirection s r → KeepsSeparation p s at r other ⊎ KeepsSeparation p r other s at
  -- each berth is cleared before it is entered
  pub berths : All (BerthIsCleared p table) p.berths
  -- each ship that follows another one sails after it
  pub after : All (SailsAfter p table) p.after
  -- in each slot of the horizon the fleet has the tugs that are held
  pub tugs : (slot : ℕ) → slot < horizon_of p → sum_by (tugs_held p slot) (zip p.ships table) ≤ whole p.fleet

-- what a ship with this slot carries: nothing where it stays, and none where it may not sail
abbrev pub ship_cargo : Parts → TideParts → ShipParts × ℕ → Option ℕ
ship_cargo p h given = if nat_lt given.1 (horizon_of p) then ship_value p h given.0 given.1 else Some 0

abbrev pub cargo_of : Parts → TideParts → List (ShipParts × ℕ) → Option ℕ
cargo_of p h [] = Some 0
cargo_of p h (given ∷ more) = plus (ship_cargo p h given) (cargo_of p h more)

-- the sum of the values of the ships that don't stay, or none where one of them has no value in its slot
abbrev pub port_cargo : Parts → TideParts → List ℕ → Option ℕ
port_cargo p h table = cargo_of p h (zip p.ships table)

-- permitted by the port, and no timetable that it permits has more cargo than this
pub record IsPortBest (p : Parts) (h : TideParts) (table : List ℕ) (c : ℕ) : Type 0 where
  pub permitted : PortPermits p h table
  pub worth : port_cargo p h table ≡ Some c
  pub greatest : (other : List ℕ) (d : ℕ) → PortPermits p h other → port_cargo p h other ≡ Some d → d ≤ c

-- the port permits no timetable
abbrev pub NonePortPermitted : Parts → TideParts → Type 0
NonePortPermitted p h = (table : List ℕ) → PortPermits p h table → ⊥
