-- What a table tells of a ship that sails in a slot, in the words of the port's rules.
use Rattle.std.specs.Prelude.{◌≡◌, ◌<◌, ℕ, ◌+◌, ◌*◌, ℤ, List, [], ◌∷◌, ◌++◌, Option, Some, None, decimal, length}
use Rattle.hw_port.specs.declared.parts.Waypoint.{Waypoint}
use Rattle.hw_port.specs.Kept.{ShipKept}
use Rattle.hw_port.specs.Parts.{ShipParts}
use Rattle.hw_port.specs.Whole.{Parts}
use Rattle.hw_tide.specs.Levels.{TideParts}
use Rattle.hw_port_model.specs.Numbers.{horizon_of, whole}
use Rattle.hw_port_model.specs.Drafts.{allowed, sailing, value}
use Rattle.hw_draft.specs.declared.passage.Passage.{Passage}
use Rattle.hw_draft.specs.Passages.{limit_name, limiting}
use Rattle.hw_port_dates.specs.Moments.{moment_after}
use Rattle.hw_port_dates.specs.Texts.{moment_text}
use Rattle.hw_port_csv.specs.Fields.{centimetres, tonnes}
use Rattle.hw_port_csv.specs.Passes.{clearance_of, keel_at, offset_at}

-- a ship of a port, its number, a slot in which it sails, and the tide
pub record SailingParts : Type 0 where
  pub port : Parts
  pub tide : TideParts
  pub number : ℕ
  pub ship : ShipParts
  pub slot : ℕ

-- the number is that of a ship, the ship keeps the port's rules, the slot is one of the port's, and the tide has a column for each waypoint
pub record IsSailing (a : SailingParts) : Type 0 where
  pub numbered : a.number < length a.port.ships
  pub kept : ShipKept a.port a.ship
  pub inside : a.slot < horizon_of a.port
  pub columns : a.tide.columns ≡ length a.port.waypoints

-- what time it is some minutes after the beginning of slot 0: the date and time where the port says when that is, else the minutes
abbrev pub minutes_text : Option (List ℕ) → ℕ → List ℕ
minutes_text None minutes = decimal minutes
minutes_text (Some start) minutes = moment_text (moment_after start minutes)

-- when a slot begins
abbrev pub time_text : Parts → ℕ → List ℕ
time_text p slot = minutes_text p.start (slot * whole p.slot_minutes)

-- ---- what limits the draft

-- the pass that limits the allowed draft
abbrev pub limit_of : SailingParts → Option Passage
limit_of a = limiting a.port a.tide a.number a.slot

-- the water under the keel of the ship there
abbrev pub keel_of : SailingParts → Option ℤ
keel_of a = keel_at (sailing a.port a.tide a.number a.slot) (limit_of a)

-- when a pass is made that comes this many slots after sailing
abbrev pub pass_text : Parts → ℕ → Option ℕ → List ℕ
pass_text p slot None = []
pass_text p slot (Some offset) = time_text p (slot + offset)

-- when a ship first passes a waypoint
abbrev pub passed_text : SailingParts → ℕ → List ℕ
passed_text a place = pass_text a.port a.slot (offset_at a.ship.route place)

-- one field for each waypoint, from this place on
abbrev pub pass_fields : SailingParts → ℕ → List Waypoint → List (List ℕ)
pass_fields a place [] = []
pass_fields a place (waypoint ∷ more) = passed_text a place ∷ pass_fields a (place + 1) more

-- ---- the fields

-- the sailing draft and the allowed one, the waypoint that limits it, the water under the keel there and how much there must be, and the cargo
abbrev pub water_fields : SailingParts → List (List ℕ)
water_fields a =
    centimetres (sailing a.port a.tide a.number a.slot) ∷ centimetres (allowed a.port a.tide a.number a.slot)
    ∷ limit_name a.port (limit_of a) ∷ centimetres (keel_of a) ∷ centimetres (clearance_of (limit_of a))
    ∷ tonnes (value a.port a.tide a.number a.slot) ∷ []

-- before these the slot and when it begins
abbrev pub figure_fields : SailingParts → List (List ℕ)
figure_fields a = decimal a.slot ∷ time_text a.port a.slot ∷ water_fields a

-- and when each waypoint is passed
abbrev pub sailing_fields : SailingParts → List (List ℕ)
sailing_fields a = figure_fields a ++ pass_fields a 0 a.port.waypoints
