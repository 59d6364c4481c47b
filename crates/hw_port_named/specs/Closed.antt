-- What closes slots of a ship's window, in words.
use Rattle.std.specs.Prelude.{◌↔◌, ℕ, ℤ, ◌+ℤ◌, ◌≤ℤ◌, Bool, ◌&&◌, int_le, if◌then◌else◌, List, [], ◌∷◌, ◌++◌, codes, decimal, slice_get, IsTrue}
use Rattle.std.specs.Option.{option_map_or}
use Rattle.hw_port.specs.declared.parts.Closing.{Closing}
use Rattle.hw_port.specs.declared.parts.Pass.{Pass}
use Rattle.hw_port.specs.declared.parts.Waypoint.{Waypoint}
use Rattle.hw_port.specs.Parts.{ShipParts}
use Rattle.hw_port.specs.Whole.{Parts}
use Rattle.hw_port_model.specs.Numbers.{whole}

-- an item closes some of the slots from one to another
abbrev pub closes_some : ℤ → ℤ → Closing → Bool
closes_some low high c = int_le c.from high && int_le low c.to

-- what is closed, and from which slot to which
abbrev pub closing_text : List ℕ → Closing → List ℕ
closing_text name c = codes " / " ++ name ++ codes " closed " ++ decimal (whole c.from) ++ 32 ∷ decimal (whole c.to)

-- the same where it closes some of these slots
abbrev pub closing_told : List ℕ → ℤ → ℤ → Closing → List ℕ
closing_told name low high c = if closes_some low high c then closing_text name c else []

abbrev pub closings_told : List ℕ → ℤ → ℤ → List Closing → List ℕ
closings_told name low high [] = []
closings_told name low high (c ∷ more) = closing_told name low high c ++ closings_told name low high more

-- the slot of a pass of a ship that sails in a slot
unfoldable pub passed : ℤ → Pass → ℤ
passed slot pass = slot +ℤ pass.offset

-- a waypoint, closed in some of the slots from one to another
unfoldable pub waypoint_told : ℤ → ℤ → Waypoint → List ℕ
waypoint_told low high w = closings_told w.name low high w.closed

-- the same by the waypoint's place
unfoldable pub place_told : Parts → ℤ → ℤ → ℕ → List ℕ
place_told p low high place = option_map_or (waypoint_told low high) (slice_get p.waypoints place) []

-- the waypoint of a pass, closed in slots in which a ship that sails in its window makes the pass
abbrev pub pass_told : Parts → ShipParts → Pass → List ℕ
pass_told p s pass = place_told p (passed s.earliest pass) (passed s.latest pass) (whole pass.waypoint)

abbrev pub passes_told : Parts → ShipParts → List Pass → List ℕ
passes_told p s [] = []
passes_told p s (pass ∷ more) = pass_told p s pass ++ passes_told p s more

-- what closes slots of a ship's window: of the port, of the ship, and of the waypoints on its route
abbrev pub ship_told : Parts → ShipParts → List ℕ
ship_told p s = closings_told (codes "port") s.earliest s.latest p.closed ++ (closings_told (codes "ship") s.earliest s.latest s.closed ++ passes_told p s s.route)

abbrev pub window_told : Parts → ℕ → List ℕ
window_told p v = option_map_or (ship_told p) (slice_get p.ships v) []

-- an item is told exactly where it closes a slot of the window
abbrev pub ToldCloses : Type 0
ToldCloses = (low high : ℤ) (c : Closing) → low ≤ℤ high → c.from ≤ℤ c.to
    → (IsTrue (closes_some low high c) ↔ ((slot : ℤ) × (low ≤ℤ slot) × (slot ≤ℤ high) × (c.from ≤ℤ slot) × (slot ≤ℤ c.to)))
