-- What is learnt from a conflict on a trail.
use Rattle.std.specs.Prelude.{◌≡◌, ◌≢◌, ◌⊎◌, ℕ, ◌+◌, ◌<◌, ◌≤◌, max, List, [], ◌∷◌, ◌++◌, Option, Some, None, All, Any, Contains, IsSome, IsSomeAnd, length, fold, find, filter_map, slice_get, option_and_then}
use Rattle.std.specs.List.{range_with_len}
use Rattle.std.specs.List.Sorted.{IsStrictlyIncreasing}
use Rattle.hw_model.specs.declared.lit.Lit.{Lit}
use Rattle.hw_model.specs.declared.lit.LitTruth.TheVariants.{False}
use Rattle.hw_model.specs.Lits.{IsClause}
use Rattle.hw_model.specs.Narrowing.{truth, denied}
use Rattle.hw_model.specs.Replay.{replay, conflict, QuietClause}
use Rattle.hw_trail_laws.specs.declared.event.Event.{Event}
use Rattle.hw_trail_laws.specs.Trails.{TrailModel, trail_shape, reason, room_before, room_of, back_to}
use Rattle.hw_lits.specs.Steps.{is_false}

-- the place of the first event after which the literal is False, none where it isn't False in the room
abbrev pub event_of : TrailModel → Lit → Option ℕ
event_of t lit = find (λ place. is_false (truth (room_before t (place + 1)) lit)) (range_with_len 0 (length t.events))

-- the level of an event, 0 where there is none
abbrev pub level_by : Option Event → ℕ
level_by None = 0
level_by (Some event) = event.level

-- the level of the event at a place
abbrev pub level_at : TrailModel → ℕ → ℕ
level_at t place = level_by (slice_get t.events place)

-- the level of the event at a place, 0 of none
abbrev pub level_made : TrailModel → Option ℕ → ℕ
level_made t None = 0
level_made t (Some place) = level_at t place

-- the level of the event that made the literal False, 0 where none did
abbrev pub level_of : TrailModel → Lit → ℕ
level_of t lit = level_made t (event_of t lit)

-- the greatest level of the events that made the clause's literals False, 0 where it has none
abbrev pub top_level : TrailModel → List Lit → ℕ
top_level t clause = fold (λ top lit. max top (level_of t lit)) 0 clause

-- the clause of the reason of the event at a place, none of a decision
abbrev pub reason_at : TrailModel → ℕ → Option (List Lit)
reason_at t place = option_and_then reason (slice_get t.events place)

-- the clauses of the reasons at places, in order, and then the conflict
abbrev pub chain_of : TrailModel → List ℕ → List Lit → List (List Lit)
chain_of t places clause = filter_map (reason_at t) places ++ clause ∷ []

-- exactly one literal of the lemma became False at the greatest level; `back` is the greatest level of the others, or 0
pub record OneOfLevel (t : TrailModel) (top : ℕ) (lemma : List Lit) (back : ℕ) (places : List ℕ) : Type 0 where
  pub lit : Lit
  pub within : Contains lemma lit
  pub level : level_of t lit ≡ top
  pub others : (other : Lit) → Contains lemma other → other ≢ lit → (1 ≤ level_of t other) × (level_of t other < top)
  pub back_most : (other : Lit) → Contains lemma other → other ≢ lit → level_of t other ≤ back
  pub back_reached : (back ≡ 0) ⊎ ((other : Lit) × Contains lemma other × (other ≢ lit) × (level_of t other ≡ back))
  pub later : (place : ℕ) → Contains places place → level_at t place ≡ top → IsSomeAnd (event_of t lit) (λ made. made < place)

-- what is learnt from a conflict: the lemma, the level to go back to, and the places of the reasons that lead from the lemma's denial to the conflict, of which none can be left out
pub record Learns (t : TrailModel) (clause lemma : List Lit) (back : ℕ) (places : List ℕ) : Type 0 where
  pub fits : IsClause (trail_shape t) lemma
  pub ascends : IsStrictlyIncreasing places
  pub reasons : All (λ place. IsSome (reason_at t place)) places
  pub replays : replay (denied (trail_shape t) lemma) (chain_of t places clause) ≡ conflict
  pub needed : (before later : List ℕ) (place : ℕ) → places ≡ before ++ place ∷ later → replay (denied (trail_shape t) lemma) (chain_of t (before ++ later) clause) ≢ conflict
  pub all_false : All (λ lit. truth (room_of t) lit ≡ False) lemma
  pub lean : All (λ lit. Any (λ other. Contains other lit) (chain_of t places clause)) lemma
  pub ground : top_level t clause ≡ 0 → (lemma ≡ []) × (back ≡ 0)
  pub above : 1 ≤ top_level t clause → OneOfLevel t (top_level t clause) lemma back places

-- at the end of each level below the current one the clauses were quiet
abbrev pub QuietBelow : TrailModel → List (List Lit) → Type 0
QuietBelow t clauses = (level : ℕ) → level < t.level → All (λ clause. QuietClause clause (room_of (back_to t level))) clauses
