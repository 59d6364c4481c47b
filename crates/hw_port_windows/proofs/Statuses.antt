-- What a status says of a slot.
use Rattle.std.proofs.Common.{◌≡◌, ◌↔◌, ◌≤◌, ◌&&◌, ◌||◌, not, ℕ, ℤ, int_lt, Bool, true, false, cond, length, Option, Some, None, IsSome, IsTrue, option_map, option_and_then, slice_get, refl, sym, ap, subst, arith}
use Rattle.std.specs.Option.{option_map_or}
use Rattle.std.proofs.lemmas.Bool.{and_from}
use Rattle.std.proofs.lemmas.Int.{ints}
use Rattle.hw_port.specs.Parts.{ShipParts}
use Rattle.hw_port.specs.Whole.{Parts}
use Rattle.hw_tide.specs.Levels.{TideParts}
use Rattle.hw_port_laws.proofs.Drafts.{least_draft_law}
use Rattle.hw_port_model.specs.Closed.{is_open}
use Rattle.hw_port_model.specs.Drafts.{allowed, allowed_draft, carried, floating, in_window, loaded, may_sail, sailing_draft, usable_draft}
use Rattle.hw_draft.proofs.Limits.{limits_law}
use Rattle.hw_port_windows.specs.Closings.{closed_for, closed_in, some_pass_closed}
use Rattle.hw_port_windows.specs.Statuses.{reason_by, sails, status_by, status_in}
use Rattle.hw_port_windows.specs.Laws.{IsTooShallow, IsTrueOf, ReasonTrue, ValueExactlyOutside}
use Rattle.hw_port_windows.proofs.WhyClosed.{why_closed}
use Rattle.hw_port_windows.proofs.Routes.{ends_before}

-- ---- a value, or none

none_sails : (closed : Bool) (a : Option ℤ) → IsTrue (sails (reason_by closed a)) → ⊥
none_sails true a e = cc
none_sails false None e = cc
none_sails false (Some x) e = cc

value_by : (s : ShipParts) (usable : Option ℤ) (closed : Bool) (a : Option ℤ) → (IsSome (option_map (carried s) usable) ↔ IsTrue (sails (status_by (option_map (loaded s) usable) closed a)))
value_by s None closed a = (λ e. absurd cc, λ e. absurd (none_sails closed a e))
value_by s (Some x) closed a = (λ e. refl, λ e. refl)

ship_by : (o : Option ShipParts) (usable : ShipParts → Option ℤ) (closed : Bool) (a : Option ℤ) → (IsSome (option_and_then (λ s. option_map (carried s) (usable s)) o) ↔ IsTrue (sails (status_by (option_and_then (λ s. option_map (loaded s) (usable s)) o) closed a)))
ship_by None usable closed a = (λ e. absurd cc, λ e. absurd (none_sails closed a e))
ship_by (Some s) usable closed a = value_by s (usable s) closed a

pub value_law : ValueExactlyOutside
value_law = λ p h v slot. ship_by (slice_get p.ships v) (λ s. usable_draft p h s slot) (closed_in p v slot) (allowed p h v slot)

-- ---- the reason

all_open : (port ship passes : Bool) → (not port || (not ship || passes)) ≡ false → (port ≡ true) × (ship ≡ true) × (passes ≡ false)
all_open true true passes e = (refl, refl, e)
all_open true false passes e = absurd cc
all_open false ship passes e = absurd cc

module _ (p : Parts) (h : TideParts) (s : ShipParts) (slot : ℕ) where
  too_shallow : (draft : ℤ) → allowed_draft p h s slot ≡ Some draft → int_lt draft s.light ≡ true → IsTooShallow p h s slot draft
  too_shallow draft is lt =
      let a = (least_draft_law p h s slot draft).0 is in
      record {
        allowed = a;
        less = grind (arith, ints, lt);
        limited = limits_law p h s slot draft a;
      }

  floats_by : (b : Bool) (draft : ℤ) → int_lt draft s.light ≡ b → allowed_draft p h s slot ≡ Some draft → option_map (loaded s) (cond b None (Some draft)) ≡ None → IsTooShallow p h s slot draft
  floats_by true draft lt is none = too_shallow draft is lt
  floats_by false draft lt is none = absurd cc

  allowed_by : (o : Option ℤ) → 1 ≤ length s.route → some_pass_closed p slot s.route ≡ false → allowed_draft p h s slot ≡ o → option_map (loaded s) (option_and_then (floating s) o) ≡ None → IsTrueOf p h s slot (reason_by false o)
  allowed_by None some opens is none = ends_before p h slot s.route some opens is
  allowed_by (Some draft) some opens is none = floats_by (int_lt draft s.light) draft refl is none

  sails_by : (b : Bool) (o : Option ℤ) → b ≡ true → option_map (loaded s) (cond b o None) ≡ None → option_map (loaded s) o ≡ None
  sails_by true o e none = none
  sails_by false o e none = absurd cc

  reason_told : (closed : Bool) → closed_for p s slot ≡ closed → sailing_draft p h s slot ≡ None → 1 ≤ length s.route → IsTrue (in_window s slot) → IsTrueOf p h s slot (reason_by closed (allowed_draft p h s slot))
  reason_told true is none some within = why_closed p s slot is
  reason_told false is none some within =
      let opens = all_open (is_open p.closed slot) (is_open s.closed slot) (some_pass_closed p slot s.route) is in
      let may : may_sail p s slot ≡ true = and_from (in_window s slot) (is_open p.closed slot && is_open s.closed slot) within (and_from (is_open p.closed slot) (is_open s.closed slot) opens.0 opens.1) in
      allowed_by (allowed_draft p h s slot) some opens.2 refl (sails_by (may_sail p s slot) (option_and_then (floating s) (allowed_draft p h s slot)) may none)

  told_by : (o : Option ℤ) → sailing_draft p h s slot ≡ o → 1 ≤ length s.route → IsTrue (in_window s slot) → IsTrueOf p h s slot (status_by o (closed_for p s slot) (allowed_draft p h s slot))
  told_by (Some draft) is some within = is
  told_by None is some within = reason_told (closed_for p s slot) refl is some within

  status_is : (v : ℕ) → slice_get p.ships v ≡ Some s → status_in p h v slot ≡ status_by (sailing_draft p h s slot) (closed_for p s slot) (allowed_draft p h s slot)
  status_is v e = ap (λ o. status_by (option_and_then (λ r. sailing_draft p h r slot) o) (option_map_or (λ r. closed_for p r slot) o false) (option_and_then (λ r. allowed_draft p h r slot) o)) e

  pub reason : (v : ℕ) → slice_get p.ships v ≡ Some s → 1 ≤ length s.route → IsTrue (in_window s slot) → IsTrueOf p h s slot (status_in p h v slot)
  reason v e some within = subst (λ status. IsTrueOf p h s slot status) (sym (status_is v e)) (told_by (sailing_draft p h s slot) refl some within)

pub reason_law : ReasonTrue
reason_law = λ p h v slot s e some within. reason p h s slot v e some within
