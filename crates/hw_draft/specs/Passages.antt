-- How a ship that sails in a slot makes its passes, and which of them limits its draft.
use Rattle.std.specs.Prelude.{ℕ, ◌≤◌, ℤ, pos, ◌+ℤ◌, ◌-ℤ◌, Bool, List, [], ◌∷◌, map, Option, Some, None, option_and_then, slice_get, if◌then◌else◌}
use Rattle.std.specs.Option.{option_map_or}
use Rattle.std.specs.Ordering.{int_eq}
use Rattle.hw_port.specs.declared.parts.Pass.{Pass}
use Rattle.hw_port.specs.Kept.{Within}
use Rattle.hw_port.specs.Parts.{ShipParts}
use Rattle.hw_port.specs.Whole.{Parts}
use Rattle.hw_tide.specs.Levels.{TideParts}
use Rattle.hw_port_model.specs.Numbers.{whole}
use Rattle.hw_port_model.specs.Drafts.{allowed_draft, depth_of, draft_at, height_for_pass, passing_slot}
use Rattle.hw_draft.specs.declared.passage.Passage.{Passage}

-- a pass of a ship that sails in a slot: where and when it is made, the charted depth, the height that judges it, the clearance, and the draft that these leave
unfoldable pub passage_of : Parts → TideParts → ℕ → Pass → Passage
passage_of p h slot pass = record {
  waypoint = whole pass.waypoint;
  slot = passing_slot slot pass;
  depth = depth_of p.waypoints pass;
  height = height_for_pass p h slot pass;
  clearance = pass.clearance;
  left = draft_at p h slot pass;
}

-- those of a route
abbrev pub passages : Parts → TideParts → ℕ → List Pass → List Passage
passages p h slot route = map (passage_of p h slot) route

-- the depth of the water that judges a pass
abbrev pub water : Passage → ℤ
water m = m.depth +ℤ m.height

-- how much of it is under the keel of a ship of this draft
abbrev pub under_keel : Passage → ℤ → ℤ
under_keel m draft = water m -ℤ draft

-- a pass leaves just this draft
unfoldable pub leaves_just : ℤ → Passage → Bool
leaves_just draft m = int_eq m.left draft

-- the first of some passages that does
abbrev pub first_leaving : ℤ → List Passage → Option Passage
first_leaving draft [] = None
first_leaving draft (m ∷ more) = if leaves_just draft m then Some m else first_leaving draft more

-- the pass that limits a ship's draft in a slot: the first of its route that leaves no more than what is allowed
abbrev pub limiting_passage : Parts → TideParts → ShipParts → ℕ → Option Passage
limiting_passage p h s slot = option_and_then (λ draft. first_leaving draft (passages p h slot s.route)) (allowed_draft p h s slot)

-- the same by the ship's place
abbrev pub limiting : Parts → TideParts → ℕ → ℕ → Option Passage
limiting p h ship slot = option_and_then (λ s. limiting_passage p h s slot) (slice_get p.ships ship)

-- the numbers of a passage are within a port's limits
pub record PassageKept (m : Passage) : Type 0 where
  pub slot : m.slot ≤ 1_535
  pub depth : Within (pos 0) (pos 10_000) m.depth
  pub clearance : Within (pos 0) (pos 1_000) m.clearance

-- the name of a waypoint
abbrev pub waypoint_name : Parts → ℕ → List ℕ
waypoint_name p place = option_map_or (λ w. w.name) (slice_get p.waypoints place) []

-- that of the waypoint of a passage, where there is one
abbrev pub limit_name : Parts → Option Passage → List ℕ
limit_name p None = []
limit_name p (Some m) = waypoint_name p m.waypoint
