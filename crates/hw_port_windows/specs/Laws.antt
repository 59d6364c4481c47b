-- What the report says, in the words of the port's rules.
use Rattle.std.specs.Prelude.{◌≡◌, ◌↔◌, ℕ, ◌+◌, ◌<◌, ◌≤◌, ℤ, ◌≤ℤ◌, ◌<ℤ◌, List, [], ◌∷◌, length, Some, IsSome, IsTrue, slice_get}
use Rattle.hw_port.specs.Kept.{ShipKept}
use Rattle.hw_port.specs.Parts.{ShipParts}
use Rattle.hw_port.specs.Whole.{Parts}
use Rattle.hw_tide.specs.Levels.{TideParts}
use Rattle.hw_port_model.specs.Drafts.{in_window, IsAllowedDraft, sailing_draft, value}
use Rattle.hw_draft.specs.Laws.{IsLimited}
use Rattle.hw_draft.specs.LastPasses.{judging_slot, last_pass}
use Rattle.hw_port_windows.specs.declared.status.Status.{Status}
use Rattle.hw_port_windows.specs.declared.status.Status.TheVariants.{Sails, Closed, Shallow, TidesEnd}
use Rattle.hw_port_windows.specs.declared.run.Run.{Run}
use Rattle.hw_port_windows.specs.Closings.{IsClosedFor}
use Rattle.hw_port_windows.specs.Statuses.{statuses_alike, sails, status_in}
use Rattle.hw_port_windows.specs.Runs.{deepest_in, lightest_in, runs_within}
use Rattle.hw_port_windows.specs.Windows.{AskedParts, greatest_draft, least_draft, span_of, statuses}

-- a run that begins in this slot and ends before another one: its slots are of one kind, and the slot after it is of another
pub record IsLongest (status : ℕ → Status) (from end : ℕ) (run : Run) : Type 0 where
  pub begins : run.first ≡ from
  pub forward : run.first ≤ run.last
  pub inside : run.last < end
  pub one_kind : (slot : ℕ) → run.first ≤ slot → slot ≤ run.last → IsTrue (statuses_alike (status run.first) (status slot))
  pub longest : run.last + 1 < end → IsTrue (statuses_alike (status run.first) (status (run.last + 1))) → ⊥

-- such runs one after another, from this slot to the one before the end
abbrev pub FollowOn : (ℕ → Status) → ℕ → ℕ → List Run → Type 0
FollowOn status from end [] = from ≡ end
FollowOn status from end (run ∷ more) = IsLongest status from end run × FollowOn status (run.last + 1) end more

-- the runs of a span are the longest ones, from its first slot to its last
abbrev pub RunsAreLongest : Type 0
RunsAreLongest = (status : ℕ → Status) (span : Run) → span.first ≤ span.last → FollowOn status span.first (span.last + 1) (runs_within status span)

-- in this slot the water allows this draft, less than the light one, and the pass that limits it leaves no more
pub record IsTooShallow (p : Parts) (h : TideParts) (s : ShipParts) (slot : ℕ) (draft : ℤ) : Type 0 where
  pub allowed : IsAllowedDraft p h s slot draft
  pub less : draft <ℤ s.light
  pub limited : IsLimited p h s slot draft

-- what a status says of a slot
abbrev pub IsTrueOf : Parts → TideParts → ShipParts → ℕ → Status → Type 0
IsTrueOf p h s slot (Sails draft) = sailing_draft p h s slot ≡ Some draft
IsTrueOf p h s slot Closed = IsClosedFor p s slot
IsTrueOf p h s slot (Shallow draft) = IsTooShallow p h s slot draft
IsTrueOf p h s slot TidesEnd = h.rows ≤ judging_slot p slot (last_pass s.route)

-- it is true of each slot for which the ship asks
abbrev pub ReasonTrue : Type 0
ReasonTrue = (p : Parts) (h : TideParts) (v slot : ℕ) (s : ShipParts) → slice_get p.ships v ≡ Some s → 1 ≤ length s.route → IsTrue (in_window s slot) → IsTrueOf p h s slot (status_in p h v slot)

-- a ship has a value in a slot exactly where its status is that it sails
abbrev pub ValueExactlyOutside : Type 0
ValueExactlyOutside = (p : Parts) (h : TideParts) (v slot : ℕ) → (IsSome (value p h v slot) ↔ IsTrue (sails (status_in p h v slot)))

-- a slot of a run
pub record IsWithin (run : Run) (slot : ℕ) : Type 0 where
  pub low : run.first ≤ slot
  pub high : slot ≤ run.last

-- the slots of the least and of the greatest draft are of the run, and no slot of it has a lesser or a greater one
pub record AreExtremes (draft : ℕ → ℤ) (run : Run) : Type 0 where
  pub light_within : IsWithin run (lightest_in draft run)
  pub deep_within : IsWithin run (deepest_in draft run)
  pub least : (slot : ℕ) → IsWithin run slot → draft (lightest_in draft run) ≤ℤ draft slot
  pub greatest : (slot : ℕ) → IsWithin run slot → draft slot ≤ℤ draft (deepest_in draft run)

abbrev pub DraftsAreExtremes : Type 0
DraftsAreExtremes = (draft : ℕ → ℤ) (run : Run) → run.first ≤ run.last → AreExtremes draft run

-- the slots for which a ship asks are those from its earliest to its latest
abbrev pub SpanIsWindow : Type 0
SpanIsWindow = (p : Parts) (s : ShipParts) (slot : ℕ) → ShipKept p s → (IsTrue (in_window s slot) ↔ IsWithin (span_of s) slot)

-- what the line of a run says of one of its slots
abbrev pub RunTells : AskedParts → Run → ℕ → Status → Type 0
RunTells a run slot (Sails draft) = (d : ℤ) × (sailing_draft a.port a.tide a.ship slot ≡ Some d) × (least_draft a run ≤ℤ d) × (d ≤ℤ greatest_draft a run)
RunTells a run slot Closed = IsClosedFor a.port a.ship slot
RunTells a run slot (Shallow draft) = (d : ℤ) × IsTooShallow a.port a.tide a.ship slot d × (d ≤ℤ greatest_draft a run) × (greatest_draft a run <ℤ a.ship.light)
RunTells a run slot TidesEnd = (a.tide.rows ≤ judging_slot a.port slot (last_pass a.ship.route)) × (judging_slot a.port slot (last_pass a.ship.route) ≤ judging_slot a.port run.last (last_pass a.ship.route))

-- it is true of each slot of a longest run of those for which the ship asks
abbrev pub LinesAreTrue : Type 0
LinesAreTrue = (a : AskedParts) (run : Run) (slot : ℕ) → slice_get a.port.ships a.number ≡ Some a.ship → ShipKept a.port a.ship → (span_of a.ship).first ≤ run.first → IsLongest (statuses a) run.first ((span_of a.ship).last + 1) run → IsWithin run slot → RunTells a run slot (statuses a run.first)
