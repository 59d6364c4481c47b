-- How large the numbers of a picture are.
use Rattle.std.proofs.Common.{rules, ◌≡◌, ℕ, ℤ, pos, ◌≤ℤ◌, int_lt, cond, Bool, true, false, Option, Some, None, IfSome, option_and_then, option_map, slice_get, refl, sym, arith}
use Rattle.std.proofs.lemmas.Int.{ints}
use Rattle.std.specs.Int.{int_min}
use Rattle.hw_lemmas.proofs.Truths.{if_some}
use Rattle.hw_port.specs.Kept.{PortKept, Within}
use Rattle.hw_port.specs.Parts.{ShipParts}
use Rattle.hw_port.specs.Whole.{Parts}
use Rattle.hw_tide.specs.Levels.{TideParts}
use Rattle.hw_port_laws.proofs.Ships.{ship_kept}
use Rattle.hw_port_model.specs.Numbers.{is_outgoing}
use Rattle.hw_port_model.specs.Drafts.{allowed_draft, floating, loaded, may_sail, sailing, sailing_draft}
use Rattle.hw_port_laws.proofs.Drafts.{le_trans_z}
use Rattle.hw_port_windows.specs.Statuses.{full_draft}

abbrev Between : ShipParts → ℤ → Type 0
Between s d = (s.light ≤ℤ d) × (d ≤ℤ full_draft s)

loaded_by : (b : Bool) (light deep a : ℤ) → light ≤ℤ deep → light ≤ℤ a → (light ≤ℤ cond b (int_min deep a) light) × (cond b (int_min deep a) light ≤ℤ cond b deep light)
loaded_by true light deep a le at = (grind (arith, ints), grind (arith, ints))
loaded_by false light deep a le at = (grind (arith, ints), grind (arith, ints))

floating_by : (b : Bool) (s : ShipParts) (a : ℤ) → int_lt a s.light ≡ b → s.light ≤ℤ s.deep → IfSome (option_map (loaded s) (cond b None (Some a))) (Between s)
floating_by true s a e le = search rules
floating_by false s a e le = loaded_by (is_outgoing s) s.light s.deep a le (grind (arith, ints))

window_by : (b : Bool) (s : ShipParts) (o : Option ℤ) → s.light ≤ℤ s.deep → IfSome (option_map (loaded s) (cond b (option_and_then (floating s) o) None)) (Between s)
window_by false s o le = search rules
window_by true s None le = search rules
window_by true s (Some a) le = floating_by (int_lt a s.light) s a refl le

-- a sailing draft lies between the light and the full one
pub sails_between : (p : Parts) (h : TideParts) (s : ShipParts) (slot : ℕ) → s.light ≤ℤ s.deep → IfSome (sailing_draft p h s slot) (λ d. (s.light ≤ℤ d) × (d ≤ℤ full_draft s))
sails_between p h s slot le = window_by (may_sail p s slot) s (allowed_draft p h s slot) le

full_by : (b : Bool) (light deep : ℤ) → Within (pos 0) (pos 10_000) light → Within (pos 0) (pos 10_000) deep → cond b deep light ≤ℤ pos 10_000
full_by true light deep l d = d.high
full_by false light deep l d = l.high

small_by : (p : Parts) (h : TideParts) (ship slot : ℕ) (draft : ℤ) → PortKept p → (o : Option ShipParts) → slice_get p.ships ship ≡ o → option_and_then (λ s. sailing_draft p h s slot) o ≡ Some draft → (pos 0 ≤ℤ draft) × (draft ≤ℤ pos 10_000)
small_by p h ship slot draft kept None at is = absurd cc
small_by p h ship slot draft kept (Some s) at is =
    let k = ship_kept p ship s kept at in
    let b : (s.light ≤ℤ draft) × (draft ≤ℤ full_draft s) = if_some (Between s) (sailing_draft p h s slot) draft is (sails_between p h s slot k.load) in
    let low = k.light.low in
    let high = full_by (is_outgoing s) s.light s.deep k.light k.deep in
    let least : s.light ≤ℤ draft = b.0 in
    let most : draft ≤ℤ full_draft s = b.1 in
    (le_trans_z (pos 0) s.light draft low least, le_trans_z draft (full_draft s) (pos 10_000) most high)

pub draft_least : (p : Parts) (h : TideParts) (ship slot : ℕ) → PortKept p → (o : Option ℤ) → o ≡ sailing p h ship slot → IfSome o (λ d. pos 0 ≤ℤ d)
draft_least p h ship slot kept None is = search rules
draft_least p h ship slot kept (Some d) is = (small_by p h ship slot d kept (slice_get p.ships ship) refl (sym is)).0

pub draft_most : (p : Parts) (h : TideParts) (ship slot : ℕ) → PortKept p → (o : Option ℤ) → o ≡ sailing p h ship slot → IfSome o (λ d. d ≤ℤ pos 10_000)
draft_most p h ship slot kept None is = search rules
draft_most p h ship slot kept (Some d) is = (small_by p h ship slot d kept (slice_get p.ships ship) refl (sym is)).1
