-- What is closed for a ship in a slot: the port, the ship, or a waypoint of its route when it is passed.
use Rattle.std.specs.Prelude.{ℕ, pos, ◌≤ℤ◌, ◌⊎◌, Bool, not, ◌||◌, false, List, Contains, slice_get}
use Rattle.std.specs.List.{list_any}
use Rattle.std.specs.Option.{option_map_or}
use Rattle.hw_port.specs.declared.parts.Closing.{Closing}
use Rattle.hw_port.specs.declared.parts.Pass.{Pass}
use Rattle.hw_port.specs.Parts.{ShipParts}
use Rattle.hw_port.specs.Whole.{Parts}
use Rattle.hw_port_model.specs.Closed.{closed_at, is_open}
use Rattle.hw_port_model.specs.Drafts.{is_passable, passing_slot}

-- a ship that sails in the slot would make one of these passes where the waypoint is closed
abbrev pub some_pass_closed : Parts → ℕ → List Pass → Bool
some_pass_closed p slot route = list_any (λ pass. not (is_passable p slot pass)) route

-- the port or the ship is closed in the slot, or a waypoint of its route when it is passed
abbrev pub closed_for : Parts → ShipParts → ℕ → Bool
closed_for p s slot = not (is_open p.closed slot) || (not (is_open s.closed slot) || some_pass_closed p slot s.route)

-- the same by the ship's place
abbrev pub closed_in : Parts → ℕ → ℕ → Bool
closed_in p v slot = option_map_or (λ s. closed_for p s slot) (slice_get p.ships v) false

-- one of these closes the slot: it goes from a slot that isn't later to one that isn't earlier
pub record ClosesSlot (closings : List Closing) (slot : ℕ) : Type 0 where
  pub closing : Closing
  pub among : Contains closings closing
  pub from : closing.from ≤ℤ pos slot
  pub to : pos slot ≤ℤ closing.to

-- the ship would make a pass in a slot that its waypoint's closings close
pub record PassCloses (p : Parts) (s : ShipParts) (slot : ℕ) : Type 0 where
  pub pass : Pass
  pub among : Contains s.route pass
  pub closes : ClosesSlot (closed_at p.waypoints pass) (passing_slot slot pass)

-- why a slot is closed for the ship
abbrev pub IsClosedFor : Parts → ShipParts → ℕ → Type 0
IsClosedFor p s slot = ClosesSlot p.closed slot ⊎ (ClosesSlot s.closed slot ⊎ PassCloses p s slot)
