-- How large a sailing draft is.
use Rattle.std.proofs.Common.{◌≡◌, ℕ, ℤ, pos, ◌≤ℤ◌, int_lt, cond, Bool, true, false, Option, Some, None, IfSome, option_and_then, option_map, slice_get, refl, sym, subst, arith}
use Rattle.std.proofs.lemmas.Int.{ints}
use Rattle.std.specs.Int.{int_min}
use Rattle.hw_port.specs.Kept.{PortKept, Within}
use Rattle.hw_port.specs.Parts.{ShipParts}
use Rattle.hw_port.specs.Whole.{Parts}
use Rattle.hw_tide.specs.Levels.{TideParts}
use Rattle.hw_port_laws.proofs.Ships.{ship_kept}
use Rattle.hw_port_model.specs.Numbers.{is_outgoing}
use Rattle.hw_port_model.specs.Drafts.{allowed_draft, floating, may_sail, loaded, sailing, sailing_draft}

-- a draft of a ship
abbrev IsDraft : ℤ → Type 0
IsDraft d = Within (pos 0) (pos 10_000) d

loaded_by : (b : Bool) (light deep a : ℤ) → IsDraft light → IsDraft deep → light ≤ℤ a → IsDraft (cond b (int_min deep a) light)
loaded_by true light deep a l d at = let low = l.low in let least = d.low in let high = d.high in record { low = grind (arith, ints, low, least, at); high = grind (arith, ints, high) }
loaded_by false light deep a l d at = l

floating_by : (b : Bool) (s : ShipParts) (a : ℤ) → int_lt a s.light ≡ b → IsDraft s.light → IsDraft s.deep → IfSome (option_map (loaded s) (cond b None (Some a))) IsDraft
floating_by true s a e l d = tt
floating_by false s a e l d = loaded_by (is_outgoing s) s.light s.deep a l d (grind (arith, ints, e))

window_by : (b : Bool) (s : ShipParts) (o : Option ℤ) → IsDraft s.light → IsDraft s.deep → IfSome (option_map (loaded s) (cond b (option_and_then (floating s) o) None)) IsDraft
window_by false s o l d = tt
window_by true s None l d = tt
window_by true s (Some a) l d = floating_by (int_lt a s.light) s a refl l d

draft_by : (p : Parts) (h : TideParts) (v slot : ℕ) → PortKept p → (o : Option ShipParts) → slice_get p.ships v ≡ o → IfSome (option_and_then (λ s. sailing_draft p h s slot) o) IsDraft
draft_by p h v slot kept None at = tt
draft_by p h v slot kept (Some s) at = let k = ship_kept p v s kept at in window_by (may_sail p s slot) s (allowed_draft p h s slot) k.light k.deep

pub draft_within : (p : Parts) (h : TideParts) (v slot : ℕ) (o : Option ℤ) → PortKept p → o ≡ sailing p h v slot → IfSome o (Within (pos 0) (pos 10_000))
draft_within p h v slot o kept is = subst (λ o. IfSome o IsDraft) (sym is) (draft_by p h v slot kept (slice_get p.ships v) refl)
