-- What a restriction's line says of timetables, and which rule of the flat problem it names.
use Rattle.std.specs.Prelude.{◌≡◌, ◌⊎◌, ℕ, ◌+◌, ◌-◌, ◌<◌, ◌≤◌, pos, ◌-ℤ◌, List, [], ◌∷◌, length, Some, IsSome, IsTrue, Contains, slice_get, slice_index, sum_by, zip}
use Rattle.hw_model.specs.declared.rule.Hole.{Hole}
use Rattle.hw_model.specs.declared.rule.Job.{Job}
use Rattle.hw_model.specs.declared.rule.Rule.{Rule}
use Rattle.hw_model.specs.declared.rule.Rule.TheVariants as rules
use Rattle.hw_model.specs.Problem.{Problem}
use Rattle.hw_port.specs.Parts.{ShipParts}
use Rattle.hw_port.specs.Whole.{Parts}
use Rattle.hw_tide.specs.Levels.{TideParts}
use Rattle.hw_port_model.specs.Numbers.{horizon_of}
use Rattle.hw_port_model.specs.Drafts.{ship_value}
use Rattle.hw_port_model.specs.Timetables.{IsGiven, SailsIn}
use Rattle.hw_port_model.specs.Permitted.{Occupies, Stays, tugs_held}
use Rattle.hw_port_named.specs.declared.named.Named.{Named}
use Rattle.hw_port_named.specs.declared.named.Named.TheVariants.{Window, Separation, Sections, Berth, After, Tugs}

-- ---- by the port's rules

-- the ship has a value in its slot, or stays and may
abbrev pub WindowHolds : Parts → TideParts → List ℕ → ℕ → Type 0
WindowHolds p h table v =
    (s : ShipParts) (at : ℕ) → IsGiven p table v s at → IsSome (ship_value p h s at) ⊎ (Stays p at × IsTrue s.may_stay)

-- where both sail, the second sails at least `after` slots after the first, or the first at least `before` slots after the second
abbrev pub SailApart : Parts → List ℕ → ℕ → ℕ → ℕ → ℕ → Type 0
SailApart p table v w after before =
    (s r : ShipParts) (x y : ℕ) → SailsIn p table v s x → SailsIn p table w r y → (x + after ≤ y) ⊎ (y + before ≤ x)

-- where both sail, they are in no slot both in the same one of the sections
abbrev pub NeverMeet : Parts → List ℕ → ℕ → ℕ → List ℕ → Type 0
NeverMeet p table v w sections =
    (s r : ShipParts) (x y : ℕ) → SailsIn p table v s x → SailsIn p table w r y
    → (section slot : ℕ) → Contains sections section → Occupies s x (pos section) slot → Occupies r y (pos section) slot → ⊥

-- the incoming ship stays; or neither stays, and the outgoing one sails at least `clear` slots before it
abbrev pub IsCleared : Parts → ℕ → ℕ → ℕ → Type 0
IsCleared p x y clear = Stays p y ⊎ ((x < horizon_of p) × (y < horizon_of p) × (x + clear ≤ y))

-- the second ship stays; or neither stays, and the first one sails at least `gap` slots before it
abbrev pub SailsLater : Parts → ℕ → ℕ → ℕ → Type 0
SailsLater p x y gap = Stays p y ⊎ ((x < horizon_of p) × (y < horizon_of p) × (x + gap ≤ y))

-- in each slot the ships hold no more tugs than the fleet has
abbrev pub FleetSuffices : Parts → List ℕ → ℕ → Type 0
FleetSuffices p table fleet = (slot : ℕ) → slot < horizon_of p → sum_by (tugs_held p slot) (zip p.ships table) ≤ fleet

-- what the line says holds of a timetable
abbrev pub NamedHolds : Parts → TideParts → List ℕ → Named → Type 0
NamedHolds p h table (Window v) = WindowHolds p h table v
NamedHolds p h table (Separation v w after before) = SailApart p table v w after before
NamedHolds p h table (Sections v w sections) = NeverMeet p table v w sections
NamedHolds p h table (Berth v w clear) = IsCleared p (slice_index table v) (slice_index table w) clear
NamedHolds p h table (After v w gap) = SailsLater p (slice_index table v) (slice_index table w) gap
NamedHolds p h table (Tugs fleet) = FleetSuffices p table fleet

-- ---- by the rules of the flat problem

-- the restriction of a number is this rule
pub record IsRule (f : Problem) (number : ℕ) (rule : Rule) : Type 0 where
  pub after_windows : f.ships ≤ number
  pub there : slice_get f.rules (number - f.ships) ≡ Some rule

-- the one hole of two ships that sail this far apart
abbrev pub hole_apart : ℕ → ℕ → Hole
hole_apart after before = record { lo = pos 1 -ℤ pos before; hi = pos after -ℤ pos 1 }

-- the restriction of a number is the one that the line names
abbrev pub IsNamed : Problem → ℕ → Named → Type 0
IsNamed f number (Window v) = (number ≡ v) × (v < f.ships)
IsNamed f number (Separation v w after before) = IsRule f number (rules.Pair v w (hole_apart after before ∷ []))
IsNamed f number (Sections v w sections) =
    (holes : List Hole) × (length holes ≡ length sections) × IsRule f number (rules.Pair v w holes)
IsNamed f number (Berth v w clear) = IsRule f number (rules.After v w clear)
IsNamed f number (After v w gap) = IsRule f number (rules.After v w gap)
IsNamed f number (Tugs fleet) = (jobs : List Job) × IsRule f number (rules.Tugs fleet [] jobs)
