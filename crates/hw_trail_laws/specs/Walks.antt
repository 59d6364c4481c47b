-- The walk back over a story from a conflict: what is kept at each place, and what it gives.
use Rattle.std.specs.Prelude.{◌≡◌, ℕ, zero, suc, ◌<◌, ◌≤◌, ◌⊎◌, true, false, Option, Some, None, List, [], ◌∷◌, cond}
use Rattle.hw_model.specs.declared.lit.Lit.{Lit}
use Rattle.hw_model.specs.Lits.{negation}
use Rattle.hw_trail_laws.specs.Sides.{same_side, implies}
use Rattle.hw_trail_laws.specs.Replays.{Facts, Narrower, adding, World, meets, OnlyLeft, AllDenied}
use Rattle.hw_trail_laws.specs.Stories.{Story, room_at, IsStory}

-- the literals of a reason, none of a decision
abbrev pub reason_of : Option (List Lit) → List Lit
reason_of None = []
reason_of (Some c) = c

-- the reasons at the places in order, and then the conflict
abbrev pub chain : Story → List ℕ → List Lit → List (List Lit)
chain t [] k = k ∷ []
chain t (p ∷ ps) k = reason_of (t.at p).why ∷ chain t ps k

-- the literal is one of the clause
abbrev pub InClause : Lit → List Lit → Type 0
InClause d [] = ⊥
InClause d (l ∷ c) = (l ≡ d) ⊎ InClause d c

-- the literal is one of some of the clauses
abbrev pub InSome : Lit → List (List Lit) → Type 0
InSome d [] = ⊥
InSome d (c ∷ cs) = InClause d c ⊎ InSome d cs

-- places from p on, ascending, of events with a reason
abbrev pub ReasonedAscend : Story → ℕ → ℕ → List ℕ → Type 0
ReasonedAscend t n p [] = Unit {0}
ReasonedAscend t n p (q ∷ qs) = (p ≤ q) × (q < n) × ((c : List Lit) × ((t.at q).why ≡ Some c)) × ReasonedAscend t n (suc q) qs

-- at each of the places that has this level the literal was known already
abbrev pub Late : Story → ℕ → Lit → List ℕ → Type 0
Late t level u [] = Unit {0}
Late t level u (q ∷ qs) = ((t.at q).level ≡ level → room_at t q u ≡ true) × Late t level u qs

-- the events that count: up to the last that made a literal of the conflict false, of level `top`; `first` is the first place of that
-- level, `base` the number of events of level 0
pub record EventBounds (t : Story) (n top first base : ℕ) : Type 0 where
  pub story : IsStory t n
  pub low : (q : ℕ) → q < first → (t.at q).level < top
  pub high : (q : ℕ) → first ≤ q → q < n → (t.at q).level ≡ top
  pub ground : (q : ℕ) → q < base → (t.at q).level ≡ 0
  pub above : (q : ℕ) → base ≤ q → q < n → 1 ≤ (t.at q).level
  pub first_in : first ≤ n
  pub base_in : base ≤ n

-- of the literals of the greatest level, by the room at the end of the level below
pub data Top (t : Story) (top first base p : ℕ) (b : Facts) (places : List ℕ) : Type 0 where
  Ground : top ≡ 0 → ((m : Lit) → b m ≡ true → room_at t base m ≡ true) → Top t top first base p b places
  Open : 1 ≤ top → (Narrower (room_at t first) b → ⊥) → ((m : Lit) → b m ≡ true → room_at t p m ≡ true) → Top t top first base p b places
  Found : 1 ≤ top → (u : Lit) → b u ≡ true → room_at t first u ≡ false → room_at t p u ≡ false
      → ((m : Lit) → b m ≡ true → (room_at t first m ≡ true) ⊎ (implies u m ≡ true)) → Late t top u places → Top t top first base p b places

-- a literal of the room that became known after level 0 and implies m
pub record KeptFor (t : Story) (base : ℕ) (b : Facts) (m : Lit) : Type 0 where
  pub by : Lit
  pub known : b by ≡ true
  pub implied : implies by m ≡ true
  pub later : room_at t base by ≡ false

-- a literal of a used clause whose negation is known and implies m
pub record FromClause (cs : List (List Lit)) (b : Facts) (m : Lit) : Type 0 where
  pub by : Lit
  pub within : InSome by cs
  pub known : b (negation by) ≡ true
  pub implied : implies (negation by) m ≡ true

-- one place is left out
abbrev pub OneLess : List ℕ → List ℕ → Type 0
OneLess [] rest = ⊥
OneLess (q ∷ qs) rest = (rest ≡ qs) ⊎ ((more : List ℕ) × (rest ≡ q ∷ more) × OneLess qs more)

-- of the side of each place's event the room knows only what was known before the event
abbrev pub Settled : Story → Facts → List ℕ → Type 0
Settled t r [] = Unit {0}
Settled t r (q ∷ qs) = ((m : Lit) → r m ≡ true → same_side (t.at q).lit m ≡ true → room_at t q m ≡ true) × Settled t r qs

-- a room from which a chain may be replayed: the room after n events lies inside it, and of the sides of the places it knows nothing new
pub record Before (t : Story) (n : ℕ) (places : List ℕ) (r : Facts) : Type 0 where
  pub world : World r
  pub basic : Narrower r t.start
  pub around : Narrower (room_at t n) r
  pub settled : Settled t r places

-- no place can be left out: the chain ends in a conflict only from rooms that know all of `b`, and never with a place left out
pub record Needed (t : Story) (n : ℕ) (k : List Lit) (b : Facts) (places : List ℕ) : Type 0 where
  pub settled : Settled t b places
  pub all : (r : Facts) → Before t n places r → meets (chain t places k) r → Narrower r b
  pub each : (rest : List ℕ) → OneLess places rest → (r : Facts) → Before t n places r → meets (chain t rest k) r → ⊥

-- b is the denying room of the candidate after the events from p on have been looked at
pub record Walk (t : Story) (n top first base : ℕ) (k : List Lit) (p : ℕ) (b : Facts) (places : List ℕ) : Type 0 where
  pub world : World b
  pub basic : Narrower b t.start
  pub around : Narrower (room_at t n) b
  pub replays : meets (chain t places k) b
  pub lean : (m : Lit) → b m ≡ true → (t.start m ≡ true) ⊎ FromClause (chain t places k) b m
  pub rest : (m : Lit) → b m ≡ true → (room_at t p m ≡ true) ⊎ KeptFor t base b m
  pub ascends : ReasonedAscend t n p places
  pub needed : Needed t n k b places
  pub top_level : Top t top first base p b places

-- the event at p made the greatest literal of its side known
pub record Hit (t : Story) (p : ℕ) (b : Facts) : Type 0 where
  pub most : Lit
  pub known : b most ≡ true
  pub before : room_at t p most ≡ false
  pub made : implies (t.at p).lit most ≡ true
  pub greatest : (m : Lit) → b m ≡ true → same_side (t.at p).lit m ≡ true → implies most m ≡ true

-- the literal is implied by one that became known later than the event
pub record Later (t : Story) (p : ℕ) (b : Facts) (m : Lit) : Type 0 where
  pub by : Lit
  pub known : b by ≡ true
  pub implied : implies by m ≡ true
  pub later : room_at t (suc p) by ≡ false

-- it did not: each known literal of its side was known before, or became known later
abbrev pub Miss : Story → ℕ → Facts → Type 0
Miss t p b = (m : Lit) → b m ≡ true → same_side (t.at p).lit m ≡ true → (room_at t p m ≡ true) ⊎ Later t p b m

-- the side of e is taken back, and the clause's other literals are denying
pub record Denied (r : Facts) (c : List Lit) (new : Facts) (m : Lit) : Type 0 where
  pub by : Lit
  pub within : InClause by c
  pub was_false : r (negation by) ≡ true
  pub known : new (negation by) ≡ true
  pub implied : implies (negation by) m ≡ true

-- what a room knows after an event was resolved with its reason
pub record Resolves (start r : Facts) (e : Lit) (c : List Lit) (old new : Facts) : Type 0 where
  pub keeps : (m : Lit) → old m ≡ true → same_side e m ≡ false → new m ≡ true
  pub denies : OnlyLeft new e c
  pub sources : (m : Lit) → new m ≡ true → (start m ≡ true) ⊎ ((old m ≡ true) × (same_side e m ≡ false)) ⊎ Denied r c new m

-- the room that denies a clause
abbrev pub denying : Facts → List Lit → Facts
denying start [] = start
denying start (l ∷ c) = adding (negation l) (denying start c)

-- the level of the event that made the literal false, for one that is false after n events
abbrev pub story_level : Story → ℕ → Lit → ℕ
story_level t zero l = 0
story_level t (suc p) l = cond (room_at t p (negation l)) (story_level t p l) (t.at p).level

-- the greatest level of the conflict's literals
pub record IsTopLevel (t : Story) (n : ℕ) (conflict : List Lit) (top : ℕ) : Type 0 where
  pub most : (d : Lit) → InClause d conflict → story_level t n d ≤ top
  pub reached : (top ≡ 0) ⊎ ((d : Lit) × InClause d conflict × (story_level t n d ≡ top))

-- exactly one literal of the greatest level
pub record OneAtTop (t : Story) (n top back : ℕ) (lemma : List Lit) (places : List ℕ) : Type 0 where
  pub lit : Lit
  pub within : InClause lit lemma
  pub level : story_level t n lit ≡ top
  pub others : (l : Lit) → InClause l lemma → (l ≡ lit → ⊥) → (1 ≤ story_level t n l) × (story_level t n l < top)
  pub only : (l : Lit) → InClause l lemma → (l ≡ lit) ⊎ (story_level t n l < top)
  pub later : Late t top (negation lit) places

-- the lemma's literals by level: none where the greatest level is 0, else one of that level
pub data Levels (t : Story) (n top back : ℕ) (lemma : List Lit) (places : List ℕ) : Type 0 where
  Nothing : top ≡ 0 → lemma ≡ [] → Levels t n top back lemma places
  One : 1 ≤ top → OneAtTop t n top back lemma places → Levels t n top back lemma places

-- what the walk gives: the lemma, where to go back to, and the places of the reasons
pub record WalkGives (t : Story) (n top : ℕ) (conflict lemma : List Lit) (back : ℕ) (places : List ℕ) : Type 0 where
  pub replays : meets (chain t places conflict) (denying t.start lemma)
  pub all_false : (l : Lit) → InClause l lemma → room_at t n (negation l) ≡ true
  pub lean : (l : Lit) → InClause l lemma → InSome l (chain t places conflict)
  pub ascends : ReasonedAscend t n 0 places
  pub needed : (r : Facts) → World r → Narrower r t.start → Narrower (denying t.start lemma) r → (rest : List ℕ) → OneLess places rest → meets (chain t rest conflict) r → ⊥
  pub levels : Levels t n top back lemma places

-- the lemma is the normal clause of the room: its negations are the room's greatest literals, one a side
pub record CoveredByLemma (b : Facts) (lemma : List Lit) (m : Lit) : Type 0 where
  pub by : Lit
  pub within : InClause by lemma
  pub implied : implies (negation by) m ≡ true

-- the lemma has, of each side of which more than the start is known, the negation of the greatest literal
pub record SpellsLemma (start b : Facts) (lemma : List Lit) : Type 0 where
  pub known : (l : Lit) → InClause l lemma → b (negation l) ≡ true
  pub greatest : (l : Lit) → InClause l lemma → (m : Lit) → b m ≡ true → same_side (negation l) m ≡ true → implies (negation l) m ≡ true
  pub all : (m : Lit) → b m ≡ true → (start m ≡ true) ⊎ CoveredByLemma b lemma m
  pub proper : (l : Lit) → InClause l lemma → start (negation l) ≡ false

-- the first room denies the conflict
pub record Denies (start r : Facts) (conflict : List Lit) (b : Facts) : Type 0 where
  pub all : AllDenied b conflict
  pub sources : (m : Lit) → b m ≡ true → (start m ≡ true) ⊎ Denied r conflict b m
