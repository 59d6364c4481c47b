-- What the line of a run says of each of its slots.
use Rattle.std.proofs.Common.{◌≡◌, ◌↔◌, ◌≤◌, ◌+◌, ℕ, ℤ, pos, negsuc, ◌≤ℤ◌, int_le, true, Some, slice_get, refl, subst, arith}
use Rattle.std.proofs.lemmas.Bool.{and_from, and_parts}
use Rattle.std.proofs.lemmas.Int.{ints}
use Rattle.hw_port.proofs.Keeping.{le_from_test}
use Rattle.hw_port.specs.Kept.{ShipKept}
use Rattle.hw_port.specs.Parts.{ShipParts}
use Rattle.hw_port.specs.Whole.{Parts}
use Rattle.hw_port.proofs.Faultless.{le_test}
use Rattle.hw_tide.specs.Levels.{TideParts}
use Rattle.hw_port_model.specs.Numbers.{whole}
use Rattle.hw_port_model.specs.Closed.{is_least}
use Rattle.hw_port_model.specs.Drafts.{sailing_draft}
use Rattle.hw_port_windows.specs.declared.run.Run.{Run}
use Rattle.hw_port_windows.specs.declared.status.Status.{Status}
use Rattle.hw_port_windows.specs.declared.status.Status.TheVariants.{Sails, Closed, Shallow, TidesEnd}
use Rattle.hw_port_windows.specs.Statuses.{statuses_alike, draft_of, is_closed_status, is_shallow, sails, tides_end}
use Rattle.hw_port_windows.specs.Closings.{IsClosedFor}
use Rattle.hw_port_windows.specs.Runs.{deepest_in}
use Rattle.hw_draft.specs.LastPasses.{last_pass, judging_slot}
use Rattle.hw_port_windows.specs.Windows.{AskedParts, drafts, greatest_draft, least_draft, span_of, statuses}
use Rattle.hw_port_windows.specs.Laws.{IsLongest, RunTells, IsTooShallow, IsTrueOf, IsWithin, LinesAreTrue, SpanIsWindow}
use Rattle.hw_port_windows.proofs.Extremes.{extremes_law}
use Rattle.hw_port_windows.proofs.Routes.{judged_up_to}
use Rattle.hw_port_windows.proofs.Statuses.{reason}

-- ---- the window

low_is : (z : ℤ) (n : ℕ) → pos 0 ≤ℤ z → (z ≤ℤ pos n) ↔ (whole z ≤ n)
low_is (pos k) n at = (λ le. omega (arith, ints, le), λ le. omega (arith, ints, le))
low_is (negsuc k) n at = absurd (omega (arith, ints, at))

high_is : (z : ℤ) (n : ℕ) → pos 0 ≤ℤ z → (pos n ≤ℤ z) ↔ (n ≤ whole z)
high_is (pos k) n at = (λ le. omega (arith, ints, le), λ le. omega (arith, ints, le))
high_is (negsuc k) n at = absurd (omega (arith, ints, at))

pub window_law : SpanIsWindow
window_law = λ p s slot kept. (
  λ within.
      let both = and_parts (int_le s.earliest (pos slot)) (int_le (pos slot) s.latest) within in
      record {
        low = (low_is s.earliest slot kept.earliest.low).0 (le_from_test s.earliest (pos slot) both.0);
        high = (high_is s.latest slot kept.latest.low).0 (le_from_test (pos slot) s.latest both.1);
      },
  λ within. and_from (int_le s.earliest (pos slot)) (int_le (pos slot) s.latest) (le_test s.earliest (pos slot) ((low_is s.earliest slot kept.earliest.low).1 within.low)) (le_test (pos slot) s.latest ((high_is s.latest slot kept.latest.low).1 within.high)),
)

-- ---- a slot of a run

module _ (p : Parts) (h : TideParts) (s : ShipParts) (slot : ℕ) where
  sails_told : (here : Status) (low high : ℤ) → sails here ≡ true → IsTrueOf p h s slot here → low ≤ℤ draft_of here → draft_of here ≤ℤ high → (d : ℤ) × (sailing_draft p h s slot ≡ Some d) × (low ≤ℤ d) × (d ≤ℤ high)
  sails_told (Sails d) low high kind is above below = (d, is, above, below)
  sails_told Closed low high kind is above below = absurd cc
  sails_told (Shallow d) low high kind is above below = absurd cc
  sails_told TidesEnd low high kind is above below = absurd cc

  closed_told : (here : Status) → is_closed_status here ≡ true → IsTrueOf p h s slot here → IsClosedFor p s slot
  closed_told (Sails d) kind is = absurd cc
  closed_told Closed kind is = is
  closed_told (Shallow d) kind is = absurd cc
  closed_told TidesEnd kind is = absurd cc

  shallow_told : (here : Status) → is_shallow here ≡ true → IsTrueOf p h s slot here → IsTooShallow p h s slot (draft_of here)
  shallow_told (Sails d) kind is = absurd cc
  shallow_told Closed kind is = absurd cc
  shallow_told (Shallow d) kind is = is
  shallow_told TidesEnd kind is = absurd cc

  ended_told : (here : Status) → tides_end here ≡ true → IsTrueOf p h s slot here → h.rows ≤ judging_slot p slot (last_pass s.route)
  ended_told (Sails d) kind is = absurd cc
  ended_told Closed kind is = absurd cc
  ended_told (Shallow d) kind is = absurd cc
  ended_told TidesEnd kind is = is

module _ (a : AskedParts) (run : Run) (slot : ℕ) (there : slice_get a.port.ships a.number ≡ Some a.ship) (kept : ShipKept a.port a.ship) (from : (span_of a.ship).first ≤ run.first) (longest : IsLongest (statuses a) run.first ((span_of a.ship).last + 1) run) where
  true_of : (k : ℕ) → IsWithin run k → IsTrueOf a.port a.tide a.ship k (statuses a k)
  true_of k within =
      let inside = (window_law a.port a.ship k kept).1 (record { low = omega (arith, from, within.low); high = omega (arith, longest.inside, within.high) }) in
      reason a.port a.tide a.ship k a.number there kept.passes.low inside

  kind_of : (k : ℕ) (first : Status) → statuses a run.first ≡ first → IsWithin run k → statuses_alike first (statuses a k) ≡ true
  kind_of k first e within = subst (λ st. statuses_alike st (statuses a k) ≡ true) e (longest.one_kind k within.low within.high)

  told_by : (first : Status) → statuses a run.first ≡ first → IsWithin run slot → RunTells a run slot first
  told_by (Sails d) e within =
      let bounds = extremes_law (drafts a) run longest.forward in
      sails_told a.port a.tide a.ship slot (statuses a slot) (least_draft a run) (greatest_draft a run) (kind_of slot (Sails d) e within) (true_of slot within) (bounds.least slot within) (bounds.greatest slot within)
  told_by Closed e within = closed_told a.port a.tide a.ship slot (statuses a slot) (kind_of slot Closed e within) (true_of slot within)
  told_by (Shallow d) e within =
      let bounds = extremes_law (drafts a) run longest.forward in
      let deep = deepest_in (drafts a) run in
      let most = shallow_told a.port a.tide a.ship deep (statuses a deep) (kind_of deep (Shallow d) e bounds.deep_within) (true_of deep bounds.deep_within) in
      (draft_of (statuses a slot), shallow_told a.port a.tide a.ship slot (statuses a slot) (kind_of slot (Shallow d) e within) (true_of slot within), bounds.greatest slot within, most.less)
  told_by TidesEnd e within =
      let last : slot + (last_pass a.ship.route).offset ≤ run.last + (last_pass a.ship.route).offset = omega (arith, within.high) in
      (ended_told a.port a.tide a.ship slot (statuses a slot) (kind_of slot TidesEnd e within) (true_of slot within), judged_up_to (is_least a.port) (slot + (last_pass a.ship.route).offset) (run.last + (last_pass a.ship.route).offset) last)

pub lines_law : LinesAreTrue
lines_law = λ a run slot there kept from longest within. told_by a run slot there kept from longest (statuses a run.first) refl within
