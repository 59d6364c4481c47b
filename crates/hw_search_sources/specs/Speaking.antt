-- Which sources speak of a literal, by lists that are made once.
use Rattle.std.specs.Prelude.{◌≡◌, ℕ, ◌+◌, ◌*◌, ◌<◌, ◌≤◌, Bool, true, false, List, [], ◌∷◌, ◌++◌, Option, Some, None, Contains, cond, filter, length, slice_get, slice_index_or}
use Rattle.std.specs.List.{range_with_len}
use Rattle.hw_model.specs.declared.limits.TheConstants.{MOST_SHIPS}
use Rattle.hw_model.specs.declared.lit.Lit.{Lit}
use Rattle.hw_model.specs.declared.lit.Lit.TheVariants as lits
use Rattle.hw_model.specs.declared.source.Source.{Source}
use Rattle.hw_model.specs.Lits.{IsLitOf}
use Rattle.hw_model.specs.Problem.{Problem}
use Rattle.hw_model.specs.Quiet.{names_lit}

-- for each ship, and for each pair v < w at v * ships + w, the places of the sources that speak of it
pub record SpeakersModel : Type 0 where
  pub ships : ℕ
  pub by_ship : List (List ℕ)
  pub by_pair : List (List ℕ)

-- the places of the literal's list
abbrev pub speakers_of : SpeakersModel → Lit → List ℕ
speakers_of table (lits.AtOrAfter ship slot) = slice_index_or table.by_ship ship []
speakers_of table (lits.Before ship slot) = slice_index_or table.by_ship ship []
speakers_of table (lits.First v w) = slice_index_or table.by_pair (v * table.ships + w) []
speakers_of table (lits.NotFirst v w) = slice_index_or table.by_pair (v * table.ships + w) []

-- the list of a literal has the place of each source that speaks of it
pub record TellsSpeakers (f : Problem) (sources : List Source) (table : SpeakersModel) : Type 0 where
  pub same_ships : table.ships ≡ f.ships
  pub each : (lit : Lit) (place : ℕ) (source : Source) → IsLitOf f.ships lit → slice_get sources place ≡ Some source → names_lit f source lit ≡ true → Contains (speakers_of table lit) place

-- the source, where there is one, speaks of what the literal speaks of
abbrev pub source_names_literal : Problem → Lit → Option Source → Bool
source_names_literal f lit None = false
source_names_literal f lit (Some source) = names_lit f source lit

-- the places, ascending, of the sources that speak of what the literal speaks of
abbrev pub speaking : Problem → List Source → Lit → List ℕ
speaking f sources lit = filter (λ place. source_names_literal f lit (slice_get sources place)) (range_with_len 0 (length sources))

-- ---- how the lists are made

-- a list for each ship and for each two
pub record KeepsLists (s : SpeakersModel) : Type 0 where
  pub few : s.ships ≤ MOST_SHIPS
  pub each_ship : length s.by_ship ≡ s.ships
  pub each_pair : length s.by_pair ≡ s.ships * s.ships

-- the list of a ship
abbrev pub ship_places : SpeakersModel → ℕ → List ℕ
ship_places s ship = slice_index_or s.by_ship ship []

-- the list of a pair
abbrev pub pair_places : SpeakersModel → ℕ → ℕ → List ℕ
pair_places s v w = slice_index_or s.by_pair (v * s.ships + w) []

-- the place, where it is to be added
abbrev pub added : Bool → ℕ → List ℕ
added named place = cond named (place ∷ []) []

-- a place was added to the lists of these ships and these pairs, and to no other
pub record AddsPlace (place : ℕ) (named : ℕ → Bool) (ordered : ℕ → ℕ → Bool) (old new : SpeakersModel) : Type 0 where
  pub same_ships : new.ships ≡ old.ships
  pub ships : (ship : ℕ) → ship < old.ships → ship_places new ship ≡ ship_places old ship ++ added (named ship) place
  pub pairs : (v w : ℕ) → v < w → w < old.ships → pair_places new v w ≡ pair_places old v w ++ added (ordered v w) place
