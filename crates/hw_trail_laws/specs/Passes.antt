-- What a step of the walk back does with the candidate's room, and keeps.
use Rattle.std.specs.Prelude.{◌≡◌, ℕ, suc, ◌<◌, ◌≤◌, ◌⊎◌, Bool, true, false, cond, List, [], ◌∷◌}
use Rattle.hw_model.specs.declared.lit.Lit.{Lit}
use Rattle.hw_model.specs.Lits.{negation}
use Rattle.hw_trail_laws.specs.Sides.{same_side, implies}
use Rattle.hw_trail_laws.specs.Replays.{Facts}
use Rattle.hw_trail_laws.specs.Stories.{Story}
use Rattle.hw_trail_laws.specs.Walks.{InClause, EventBounds, Walk, Hit, Miss}

-- what a room knows after a literal was denied, unless that literal was true
pub record DeniesOne (old new : Facts) (l : Lit) : Type 0 where
  pub keeps : (m : Lit) → old m ≡ true → new m ≡ true
  pub known : (new (negation l) ≡ true) ⊎ (new l ≡ true)
  pub sources : (m : Lit) → new m ≡ true → (old m ≡ true) ⊎ ((implies (negation l) m ≡ true) × (new (negation l) ≡ true))

-- the greatest literal that the room knows of a side
pub record MostOf (start r : Facts) (e x : Lit) : Type 0 where
  pub known : r x ≡ true
  pub side : same_side e x ≡ true
  pub proper : start x ≡ false
  pub greatest : (m : Lit) → r m ≡ true → same_side e m ≡ true → implies x m ≡ true

-- of this side nothing is known beyond the start
abbrev pub NothingOf : Facts → Facts → Lit → Type 0
NothingOf start r e = (m : Lit) → r m ≡ true → same_side e m ≡ true → start m ≡ true

-- some event from `first` to before p made the greatest literal of its side known
pub record HitBefore (t : Story) (first p : ℕ) (b : Facts) : Type 0 where
  pub place : ℕ
  pub from : first ≤ place
  pub below : place < p
  pub hit : Hit t place b

-- none of these events did
abbrev pub NoHit : Story → ℕ → ℕ → Facts → Type 0
NoHit t first p b = (q : ℕ) → first ≤ q → q < p → Miss t q b

-- the literals of a clause but one are denying
pub record DeniesOthers (old new : Facts) (c : List Lit) (e : Lit) : Type 0 where
  pub keeps : (m : Lit) → old m ≡ true → new m ≡ true
  pub known : (l : Lit) → InClause l c → (l ≡ e) ⊎ ((new (negation l) ≡ true) ⊎ (new l ≡ true))
  pub sources : (m : Lit) → new m ≡ true → (old m ≡ true) ⊎ ((l : Lit) × InClause l c × (l ≡ e → ⊥) × (implies (negation l) m ≡ true) × (new (negation l) ≡ true))

-- each literal of a clause is denying
pub record DeniesAll (old new : Facts) (c : List Lit) : Type 0 where
  pub keeps : (m : Lit) → old m ≡ true → new m ≡ true
  pub known : (l : Lit) → InClause l c → (new (negation l) ≡ true) ⊎ (new l ≡ true)
  pub sources : (m : Lit) → new m ≡ true → (old m ≡ true) ⊎ ((l : Lit) × InClause l c × (implies (negation l) m ≡ true) × (new (negation l) ≡ true))

-- why an event is resolved
pub data When (t : Story) (p top first : ℕ) (b : Facts) : Type 0 where
  OnGround : (t.at p).level ≡ 0 → When t p top first b
  WithAnother : (t.at p).level ≡ top → HitBefore t first p b → When t p top first b

-- a step at the event keeps what the walk keeps, with its place where it was resolved
abbrev pub StepKeeps : Story → ℕ → ℕ → ℕ → Facts → Facts → Bool → Type 0
StepKeeps t p top first old new resolved = (n base : ℕ) (k : List Lit) (places : List ℕ) → p < n → EventBounds t n top first base
    → Walk t n top first base k (suc p) old places → Walk t n top first base k p new (cond resolved (p ∷ places) places)

-- the walk from the last event down to p
abbrev pub Walks : Story → ℕ → ℕ → ℕ → ℕ → Facts → Facts → List ℕ → Type 0
Walks t n top first p old new places = (base : ℕ) (k : List Lit) → EventBounds t n top first base → Walk t n top first base k n old [] → Walk t n top first base k p new places
