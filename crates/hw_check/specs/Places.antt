-- Clauses that stand in one list of literals, the dead ones among them.
use Rattle.std.specs.Prelude.{◌≡◌, ℕ, ◌+◌, ◌<◌, ◌≤◌, List, Option, Some, None, true, length, map, filter, filter_map, slice_range, All, AllPairs, ◌≢◌, if◌then◌else◌}
use Rattle.std.specs.List.{HoldsAt}
use Rattle.hw_model.specs.declared.lit.Lit.{Lit}
use Rattle.hw_cert_lines.specs.Kept.{NumberedClause}
use Rattle.hw_check.specs.declared.place.Place.{Place}
use Rattle.hw_check.specs.States.{literals}

-- the literals at a place
abbrev pub lits_at : List Lit → Place → List Lit
lits_at lits place = slice_range lits place.start (place.start + place.len)

-- the place of a live clause of this number whose literals are put after these
abbrev pub new_place : ℕ → List Lit → List Lit → Place
new_place id lits more = record { id = id; start = length lits; len = length more; is_live = true }

-- the clause at a place, unless it is dead
abbrev pub clause_at_place : List Lit → Place → Option NumberedClause
clause_at_place lits place = if place.is_live then Some (record { id = place.id; clause = lits_at lits place }) else None

-- the live clauses at these places
abbrev pub clauses_at : List Lit → List Place → List NumberedClause
clauses_at lits places = filter_map (clause_at_place lits) places

-- the place ends before this one
abbrev pub PlaceFits : ℕ → Place → Type 0
PlaceFits end place = place.start + place.len ≤ end

-- each number is above those of the places before it
abbrev pub PlacesAscend : List Place → Type 0
PlacesAscend places = AllPairs (λ a b. a.id < b.id) places

-- no place has this number
abbrev pub NoneHas : List Place → ℕ → Type 0
NoneHas places id = All (λ place. place.id ≢ id) places

-- the place of this number stands at this index
pub record StandsAt (places : List Place) (id index : ℕ) : Type 0 where
  pub in_list : index < length places
  pub has_number : HoldsAt (λ place. place.id ≡ id) places index

-- where the place of a number stands, if one has it
abbrev pub FindsPlace : List Place → ℕ → Option ℕ → Type 0
FindsPlace places id (Some index) = StandsAt places id index
FindsPlace places id None = NoneHas places id

-- what the type of the list keeps: `count` numbers were given, `held` clauses are live, with `live_lits` literals
pub record IsStored (lits : List Lit) (places : List Place) (count held live_lits : ℕ) : Type 0 where
  pub fit : All (PlaceFits (length lits)) places
  pub ascend : PlacesAscend places
  pub given : All (λ place. place.id ≤ count) places
  pub few : length places ≤ count
  pub counted : held ≡ length (clauses_at lits places)
  pub weighed : live_lits ≡ literals (clauses_at lits places)
  pub among : live_lits ≤ length lits

-- the live clauses of these places, and nothing else, stand in the new lists
pub record Gathers (lits : List Lit) (places : List Place) (new_lits : List Lit) (new_places : List Place) : Type 0 where
  pub same : clauses_at new_lits new_places ≡ clauses_at lits places
  pub numbers : map (λ place. place.id) new_places ≡ map (λ place. place.id) (filter (λ place. place.is_live) places)
  pub fit : All (PlaceFits (length new_lits)) new_places
  pub no_other : length new_places ≡ length (clauses_at lits places)
  pub no_more : length new_lits ≡ literals (clauses_at lits places)
