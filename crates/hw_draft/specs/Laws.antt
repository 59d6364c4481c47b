-- What limits a draft, and which pass is the last, in the words of the port's rules.
use Rattle.std.specs.Prelude.{◌≡◌, ℕ, ◌<◌, ◌≤◌, ℤ, List, length, get_or, All, Contains, Some}
use Rattle.hw_port.specs.declared.parts.Pass.{Pass}
use Rattle.hw_port.specs.Parts.{ShipParts}
use Rattle.hw_port.specs.Whole.{Parts}
use Rattle.hw_tide.specs.Levels.{TideParts}
use Rattle.hw_port_model.specs.Numbers.{whole}
use Rattle.hw_port_model.specs.Drafts.{draft_at, IsAllowedDraft}
use Rattle.hw_draft.specs.declared.last.LastPass.{LastPass}
use Rattle.hw_draft.specs.declared.passage.Passage.{Passage}
use Rattle.hw_draft.specs.LastPasses.{last_pass, made_at}
use Rattle.hw_draft.specs.Passages.{limiting_passage, passage_of}

-- the first passage of a route that leaves just this draft
pub record LeavesJust (p : Parts) (h : TideParts) (route : List Pass) (slot : ℕ) (draft : ℤ) (m : Passage) : Type 0 where
  pub pass : Pass
  pub passed : Contains route pass
  pub is : m ≡ passage_of p h slot pass
  pub leaves : draft_at p h slot pass ≡ draft
  pub first : (i : ℕ) → i < passed.0 → draft_at p h slot (get_or route i pass) ≡ draft → ⊥

-- the pass that limits a ship's draft in a slot leaves just what is allowed
pub record IsLimited (p : Parts) (h : TideParts) (s : ShipParts) (slot : ℕ) (draft : ℤ) : Type 0 where
  pub limit : Passage
  pub is : limiting_passage p h s slot ≡ Some limit
  pub leaves : LeavesJust p h s.route slot draft limit

-- there is one wherever a draft is allowed
abbrev pub SomePassLimits : Type 0
SomePassLimits = (p : Parts) (h : TideParts) (s : ShipParts) (slot : ℕ) (draft : ℤ) → IsAllowedDraft p h s slot draft → IsLimited p h s slot draft

-- no pass of a route comes after the last one, which is one of them
pub record IsLast (route : List Pass) (last : LastPass) : Type 0 where
  pub among : (pass : Pass) × Contains route pass × (made_at pass ≡ last)
  pub latest : All (λ pass. whole pass.offset ≤ last.offset) route

abbrev pub LastPassIsLast : Type 0
LastPassIsLast = (route : List Pass) → 1 ≤ length route → IsLast route (last_pass route)
