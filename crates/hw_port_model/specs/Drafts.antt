-- The allowed draft of a ship in a slot, its sailing draft there, and its value.
use Rattle.std.specs.Prelude.{ℕ, ◌+◌, ℤ, pos, ◌+ℤ◌, ◌-ℤ◌, ◌*ℤ◌, Bool, ◌&&◌, nat_lt, int_le, int_lt, if◌then◌else◌, List, [], ◌∷◌, map, Option, Some, None, option_map, option_and_then, slice_get, ◌≡◌, ◌≤ℤ◌, ◌<◌, All, Contains, IsTrue}
use Rattle.std.specs.Int.{int_min}
use Rattle.std.specs.Option.{option_map_or}
use Rattle.hw_port.specs.declared.parts.Pass.{Pass}
use Rattle.hw_port.specs.declared.parts.Waypoint.{Waypoint}
use Rattle.hw_port.specs.Parts.{ShipParts}
use Rattle.hw_port.specs.Whole.{Parts}
use Rattle.hw_tide.specs.Levels.{TideParts, height_at}
use Rattle.hw_port_model.specs.Numbers.{whole, is_outgoing}
use Rattle.hw_port_model.specs.Closed.{is_open, closed_at, is_least}

-- the slot in which a ship that sails in this slot makes a pass
abbrev pub passing_slot : ℕ → Pass → ℕ
passing_slot slot pass = slot + whole pass.offset

-- the charted depth at the waypoint of a pass
abbrev pub depth_of : List Waypoint → Pass → ℤ
depth_of waypoints pass = option_map_or (λ w. w.depth) (slice_get waypoints (whole pass.waypoint)) (pos 0)

-- the last slot whose height judges a pass: its passing slot, or the one after that
abbrev pub last_height : Parts → ℕ → Pass → ℕ
last_height p slot pass = if is_least p then passing_slot slot pass + 1 else passing_slot slot pass

-- the height of the water at the waypoint of a pass: at the beginning of its passing slot, or the lesser of those at both ends of it
abbrev pub height_for_pass : Parts → TideParts → ℕ → Pass → ℤ
height_for_pass p h slot pass = if is_least p then int_min (height_at h (passing_slot slot pass) (whole pass.waypoint)) (height_at h (passing_slot slot pass + 1) (whole pass.waypoint)) else height_at h (passing_slot slot pass) (whole pass.waypoint)

-- the draft that a pass leaves: depth and height less the clearance
abbrev pub draft_at : Parts → TideParts → ℕ → Pass → ℤ
draft_at p h slot pass = depth_of p.waypoints pass +ℤ height_for_pass p h slot pass -ℤ pass.clearance

-- the waypoint of a pass isn't closed in the passing slot
abbrev pub is_passable : Parts → ℕ → Pass → Bool
is_passable p slot pass = is_open (closed_at p.waypoints pass) (passing_slot slot pass)

-- the same, or none where a slot whose height judges the pass lies outside the tide, or where the waypoint is closed
abbrev pub pass_draft : Parts → TideParts → ℕ → Pass → Option ℤ
pass_draft p h slot pass = if nat_lt (last_height p slot pass) h.rows && is_passable p slot pass then Some (draft_at p h slot pass) else None

-- the lesser of two drafts, where both are there
abbrev pub lesser : Option ℤ → Option ℤ → Option ℤ
lesser None o = None
lesser (Some a) None = None
lesser (Some a) (Some b) = Some (int_min a b)

-- the least of some drafts, or none where one isn't there
abbrev pub least_of_drafts : List (Option ℤ) → Option ℤ
least_of_drafts [] = None
least_of_drafts (o ∷ []) = o
least_of_drafts (o ∷ q ∷ more) = lesser o (least_of_drafts (q ∷ more))

-- the allowed draft: the least that a pass of the route leaves, or none where a pass lies outside the tide or is closed
abbrev pub allowed_draft : Parts → TideParts → ShipParts → ℕ → Option ℤ
allowed_draft p h s slot = least_of_drafts (map (pass_draft p h slot) s.route)

-- the same in words: each pass lies inside the tide, is open and leaves at least this draft, and one leaves just this
pub record IsAllowedDraft (p : Parts) (h : TideParts) (s : ShipParts) (slot : ℕ) (draft : ℤ) : Type 0 where
  pub inside : All (λ pass. last_height p slot pass < h.rows) s.route
  pub passable : All (λ pass. IsTrue (is_passable p slot pass)) s.route
  pub enough : All (λ pass. draft ≤ℤ draft_at p h slot pass) s.route
  pub met : (pass : Pass) × Contains s.route pass × (draft_at p h slot pass ≡ draft)

-- the slot is one from the ship's earliest to its latest
abbrev pub in_window : ShipParts → ℕ → Bool
in_window s slot = int_le s.earliest (pos slot) && int_le (pos slot) s.latest

-- the slot is in the ship's window, and closed neither for the port nor for the ship
abbrev pub may_sail : Parts → ShipParts → ℕ → Bool
may_sail p s slot = in_window s slot && (is_open p.closed slot && is_open s.closed slot)

-- a draft of at least `light`
abbrev pub floating : ShipParts → ℤ → Option ℤ
floating s draft = if int_lt draft s.light then None else Some draft

-- the allowed draft of a slot in which the ship may sail: one in its window that isn't closed, where the draft is at least `light`
abbrev pub usable_draft : Parts → TideParts → ShipParts → ℕ → Option ℤ
usable_draft p h s slot = if may_sail p s slot then option_and_then (floating s) (allowed_draft p h s slot) else None

-- the draft at which a ship sails, by the allowed one: an outgoing ship loads as deep as it may, an incoming one is light
abbrev pub loaded : ShipParts → ℤ → ℤ
loaded s draft = if is_outgoing s then int_min s.deep draft else s.light

-- what an outgoing ship carries at its sailing draft, in tenths of a tonne; an incoming one carries nothing
abbrev pub carried : ShipParts → ℤ → ℕ
carried s draft = if is_outgoing s then whole (s.tpc *ℤ (int_min s.deep draft -ℤ s.light)) else 0

-- the sailing draft of a ship in a slot, or none where it may not sail
abbrev pub sailing_draft : Parts → TideParts → ShipParts → ℕ → Option ℤ
sailing_draft p h s slot = option_map (loaded s) (usable_draft p h s slot)

-- the value of a ship in a slot, or none where it may not sail
abbrev pub ship_value : Parts → TideParts → ShipParts → ℕ → Option ℕ
ship_value p h s slot = option_map (carried s) (usable_draft p h s slot)

-- the same by the ship's place
abbrev pub allowed : Parts → TideParts → ℕ → ℕ → Option ℤ
allowed p h ship slot = option_and_then (λ s. allowed_draft p h s slot) (slice_get p.ships ship)

abbrev pub sailing : Parts → TideParts → ℕ → ℕ → Option ℤ
sailing p h ship slot = option_and_then (λ s. sailing_draft p h s slot) (slice_get p.ships ship)

abbrev pub value : Parts → TideParts → ℕ → ℕ → Option ℕ
value p h ship slot = option_and_then (λ s. ship_value p h s slot) (slice_get p.ships ship)
