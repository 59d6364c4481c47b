-- The laws of trails, of what a conflict teaches, and of clauses that were quiet below it.
use Rattle.std.specs.Prelude.{◌≡◌, ◌↔◌, ℕ, ◌+◌, ◌-◌, ◌*◌, ◌/◌, ◌^◌, ◌<◌, ◌≤◌, true, List, [], ◌∷◌, ◌++◌, Some, All, AllPairs, Contains, length, IsSomeAnd, None}
use Rattle.hw_model.specs.declared.lit.Lit.{Lit}
use Rattle.hw_model.specs.declared.lit.LitTruth.TheVariants.{True, False, Free}
use Rattle.hw_model.specs.declared.narrowing.Narrowed.TheVariants.{Cut}
use Rattle.hw_model.specs.declared.shape.Shape.{Shape}
use Rattle.hw_model.specs.Limits.{ShapeFits}
use Rattle.hw_model.specs.Lits.{negation, lit_fits, IsClause}
use Rattle.hw_model.specs.Rooms.{RoomModel, IsRoom, RoomWithin}
use Rattle.hw_model.specs.Narrowing.{truth, cut, denied}
use Rattle.hw_model.specs.Replay.{narrowing, replay, conflict, QuietClause}
use Rattle.hw_model.specs.Lits.{IsLitOf}
use Rattle.hw_trail_laws.specs.declared.event.Event.{Event}
use Rattle.hw_trail_laws.specs.declared.event.Why.{Why}
use Rattle.hw_trail_laws.specs.Replays.{meets}
use Rattle.hw_trail_laws.specs.Stories.{room_at, IsStory}
use Rattle.hw_trail_laws.specs.Walks.{InClause, IsTopLevel, WalkGives}
use Rattle.hw_trail_laws.specs.Knowing.{knows}
use Rattle.hw_trail_laws.specs.Trails.{TrailModel, trail_shape, reason_clause, room_before, room_of, IsTrail, no_events, with_event, decided, implied, back_to, most_events}
use Rattle.hw_trail_laws.specs.Learning.{event_of, level_at, top_level, Learns, QuietBelow}
use Rattle.hw_trail_laws.specs.Bridge.{story_of, event_at, GoesBack}

-- a room knows what it makes True, and the negation of what it makes False
abbrev pub KnowsTruth : Type 0
KnowsTruth = (room : RoomModel) (lit : Lit) → IsRoom room → IsLitOf room.ships lit → ((knows room lit ≡ true) ↔ (truth room lit ≡ True)) × ((knows room (negation lit) ≡ true) ↔ (truth room lit ≡ False))

-- a replay of rooms meets a conflict exactly where the replay by what they know does
abbrev pub ReplayKnows : Type 0
ReplayKnows = (room : RoomModel) (clauses : List (List Lit)) → IsRoom room → All (All (IsLitOf room.ships)) clauses → ((replay room clauses ≡ conflict) ↔ meets clauses (knows room))

-- no event is a trail, and each change keeps one
pub record TrailChanges (t : TrailModel) : Type 0 where
  pub decision : (lit : Lit) → lit_fits (trail_shape t) lit ≡ true → truth (room_of t) lit ≡ Free → IsTrail (decided t lit)
  pub implication : (lit : Lit) (why : Why) → lit_fits (trail_shape t) lit ≡ true → IsClause (trail_shape t) (reason_clause why) → truth (room_of t) lit ≡ Free → narrowing (reason_clause why) (room_of t) ≡ Cut lit → IsTrail (implied t lit why)
  pub back : (level : ℕ) → level ≤ t.level → IsTrail (back_to t level)
  pub cuts : (event : Event) → room_of (with_event t event) ≡ cut event.lit (room_of t)

-- no event is a trail, and each change of a trail gives one
abbrev pub TrailKept : Type 0
TrailKept = ((shape : Shape) → ShapeFits shape → IsTrail (no_events shape)) × ((t : TrailModel) → IsTrail t → TrailChanges t)

-- a trail is a story, whose rooms know what the trail's rooms do
pub record TellsRooms (t : TrailModel) : Type 0 where
  pub story : IsStory (story_of t) (length t.events)
  pub rooms : (place : ℕ) → place ≤ length t.events → IsRoom (room_before t place)
  pub known : (place : ℕ) → place ≤ length t.events → (lit : Lit) → ((knows (room_before t place) lit ≡ true) ↔ (room_at (story_of t) place lit ≡ true))
  pub last : room_before t (length t.events) ≡ room_of t

-- each trail is such a story
abbrev pub TrailTells : Type 0
TrailTells = (t : TrailModel) → IsTrail t → TellsRooms t

-- the levels of a trail: they don't fall, each from 1 to the current one begins with its only decision, and level 0 has none
pub record HasLevels (t : TrailModel) : Type 0 where
  pub rise : (p q : ℕ) → p ≤ q → q < length t.events → level_at t p ≤ level_at t q
  pub upto : (p : ℕ) → p < length t.events → level_at t p ≤ t.level
  pub decisions : (p : ℕ) → p < length t.events → (event_at t p).why ≡ None → (1 ≤ level_at t p) × ((q : ℕ) → q < p → level_at t q < level_at t p)
  pub each : (level : ℕ) → 1 ≤ level → level ≤ t.level → (p : ℕ) × (p < length t.events) × ((event_at t p).why ≡ None) × (level_at t p ≡ level)

-- each trail has such levels
abbrev pub TrailLevels : Type 0
TrailLevels = (t : TrailModel) → IsTrail t → HasLevels t

-- each event narrows a range or sets an order, so there are few
abbrev pub FewEvents : Type 0
FewEvents = (t : TrailModel) → IsTrail t → length t.events ≤ most_events t.ships t.slots

-- the place that event_of gives: the literal is False after that event and not before; none where it isn't False in the room
pub record IsEventOf (t : TrailModel) (lit : Lit) (place : ℕ) : Type 0 where
  pub inside : place < length t.events
  pub after : truth (room_before t (place + 1)) lit ≡ False
  pub before : (earlier : ℕ) → earlier ≤ place → (truth (room_before t earlier) lit ≡ False) → ⊥

-- `event_of` gives that place, and none exactly where the literal isn't False in the room
abbrev pub EventComputed : Type 0
EventComputed = (t : TrailModel) (lit : Lit) → IsTrail t → lit_fits (trail_shape t) lit ≡ true → (((place : ℕ) → (event_of t lit ≡ Some place) ↔ IsEventOf t lit place) × ((truth (room_of t) lit ≡ False) ↔ IsSomeAnd (event_of t lit) (λ place. place < length t.events)))

-- what the walk back over a story finds is what the conflict teaches
abbrev pub WalkLearns : Type 0
WalkLearns = (t : TrailModel) → IsTrail t → (n : ℕ) → n ≤ length t.events → (top : ℕ) (clause lemma : List Lit) (back : ℕ) (places : List ℕ)
    → IsClause (trail_shape t) clause → ((lit : Lit) → InClause lit clause → room_at (story_of t) n (negation lit) ≡ true) → IsTopLevel (story_of t) n clause top
    → IsClause (trail_shape t) lemma → (top ≡ 0 → back ≡ 0) → GoesBack (story_of t) n top lemma back
    → WalkGives (story_of t) n top clause lemma back places → Learns t clause lemma back places

-- a lemma's denied room lies inside that of no clause that was quiet at the end of the level below its greatest one
abbrev pub NeverInside : Type 0
NeverInside = (t : TrailModel) (clause lemma : List Lit) (back : ℕ) (places : List ℕ) (old : List Lit) → IsTrail t → Learns t clause lemma back places → 1 ≤ top_level t clause → IsClause (trail_shape t) old
    → QuietClause old (room_of (back_to t (top_level t clause - 1))) → RoomWithin (denied (trail_shape t) lemma) (denied (trail_shape t) old) → ⊥

-- the whole room lies inside the denied room of no clause that has a literal
abbrev pub EmptyOutside : Type 0
EmptyOutside = (shape : Shape) (old : List Lit) (lit : Lit) → ShapeFits shape → IsClause shape old → Contains old lit → RoomWithin (denied shape []) (denied shape old) → ⊥

-- what was quiet at the ends of lower levels stays so through each change of a trail
pub record QuietChanges (t : TrailModel) (clauses : List (List Lit)) : Type 0 where
  pub implication : (lit : Lit) (why : Why) → QuietBelow (implied t lit why) clauses
  pub decision : (lit : Lit) → All (λ clause. QuietClause clause (room_of t)) clauses → QuietBelow (decided t lit) clauses
  pub back : (level : ℕ) → level ≤ t.level → QuietBelow (back_to t level) clauses
  pub lemma : (clause lemma : List Lit) (back : ℕ) (places : List ℕ) → Learns t clause lemma back places → 1 ≤ top_level t clause → (back < t.level) × QuietBelow (back_to t back) (clauses ++ lemma ∷ [])

-- each change of a trail keeps them so
abbrev pub QuietKept : Type 0
QuietKept = (t : TrailModel) (clauses : List (List Lit)) → IsTrail t → QuietBelow t clauses → QuietChanges t clauses

-- clauses of a shape none of whose denied rooms lies inside that of an earlier one are at most as many as there are rooms
abbrev pub FewRooms : Type 0
FewRooms = (shape : Shape) (clauses : List (List Lit)) → ShapeFits shape → All (IsClause shape) clauses → AllPairs (λ earlier later. RoomWithin (denied shape later) (denied shape earlier) → ⊥) clauses
    → length clauses ≤ (shape.slots * (shape.slots + 1) / 2) ^ shape.ships * 3 ^ (shape.ships * (shape.ships - 1) / 2)
