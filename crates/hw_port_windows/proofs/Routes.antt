-- A route with a pass after the end of the tide.
use Rattle.std.proofs.Common.{◌≡◌, ◌⊎◌, ◌≤◌, ◌+◌, ◌&&◌, not, ◌||◌, ℕ, ℤ, Bool, true, false, cond, List, [], ◌∷◌, length, map, Option, Some, None, nat_lt, refl, inl, inr, arith}
use Rattle.std.proofs.lemmas.Bool.{ltb-false}
use Rattle.hw_port.specs.declared.parts.Pass.{Pass}
use Rattle.hw_port.specs.Whole.{Parts}
use Rattle.hw_tide.specs.Levels.{TideParts}
use Rattle.hw_port_model.specs.Numbers.{whole}
use Rattle.hw_port_model.specs.Closed.{is_least}
use Rattle.hw_port_model.specs.Drafts.{draft_at, is_passable, last_height, least_of_drafts, lesser, pass_draft}
use Rattle.hw_draft.specs.LastPasses.{judging_slot, last_pass, made_at}
use Rattle.hw_draft.proofs.LastPasses.{later_bounds}
use Rattle.hw_port_windows.specs.Closings.{some_pass_closed}

-- ---- the slots whose heights judge passes

-- the slot after one, or that one
judged_on : (b : Bool) (rows x y : ℕ) → rows ≤ cond b (x + 1) x → x ≤ y → rows ≤ cond b (y + 1) y
judged_on true rows x y out le = omega (arith, out, le)
judged_on false rows x y out le = omega (arith, out, le)

pub judged_up_to : (b : Bool) (x y : ℕ) → x ≤ y → cond b (x + 1) x ≤ cond b (y + 1) y
judged_up_to true x y le = omega (arith, le)
judged_up_to false x y le = omega (arith, le)

none_closed : (x more : Bool) → (not x || more) ≡ false → (x ≡ true) × (more ≡ false)
none_closed true more e = (refl, e)
none_closed false more e = absurd cc

module _ (p : Parts) (h : TideParts) (slot : ℕ) where
  -- ---- a route with a pass outside the tide

  outside_by : (inside open' : Bool) (pass : Pass) → nat_lt (last_height p slot pass) h.rows ≡ inside → open' ≡ true → cond (inside && open') (Some (draft_at p h slot pass)) None ≡ None → h.rows ≤ last_height p slot pass
  outside_by true true pass e o none = absurd cc
  outside_by true false pass e o none = absurd cc
  outside_by false open' pass e o none = ltb-false (last_height p slot pass) h.rows e

  outside : (pass : Pass) → is_passable p slot pass ≡ true → pass_draft p h slot pass ≡ None → h.rows ≤ last_height p slot pass
  outside pass o none = outside_by (nat_lt (last_height p slot pass) h.rows) (is_passable p slot pass) pass refl o none

  lesser_none : (o q : Option ℤ) → lesser o q ≡ None → (o ≡ None) ⊎ (q ≡ None)
  lesser_none None q e = inl refl
  lesser_none (Some a) None e = inr refl
  lesser_none (Some a) (Some b) e = absurd cc

  -- a slot that isn't in the tide stays so with a later pass
  out_on : (x y : ℕ) → h.rows ≤ cond (is_least p) (slot + x + 1) (slot + x) → x ≤ y → h.rows ≤ cond (is_least p) (slot + y + 1) (slot + y)
  out_on x y out le = judged_on (is_least p) h.rows (slot + x) (slot + y) out (omega (arith, le))

  pub ends_before : (route : List Pass) → 1 ≤ length route → some_pass_closed p slot route ≡ false → least_of_drafts (map (pass_draft p h slot) route) ≡ None → h.rows ≤ judging_slot p slot (last_pass route)
  ends_before [] le opens none = absurd (omega (arith, le))
  ends_before (pass ∷ []) le opens none =
      let o = none_closed (is_passable p slot pass) false opens in
      let both = later_bounds (made_at pass) (last_pass []) in
      out_on (whole pass.offset) ((last_pass (pass ∷ [])).offset) (outside pass o.0 none) both.0
  ends_before (pass ∷ next ∷ more) le opens none =
      let o = none_closed (is_passable p slot pass) (some_pass_closed p slot (next ∷ more)) opens in
      let both = later_bounds (made_at pass) (last_pass (next ∷ more)) in
      elim (lesser_none (pass_draft p h slot pass) (least_of_drafts (map (pass_draft p h slot) (next ∷ more))) none) [
        | inl this ↦ out_on (whole pass.offset) ((last_pass (pass ∷ next ∷ more)).offset) (outside pass o.0 this) both.0
        | inr that ↦ out_on ((last_pass (next ∷ more)).offset) ((last_pass (pass ∷ next ∷ more)).offset) (ends_before (next ∷ more) (omega arith) o.1 that) both.1
      ]
