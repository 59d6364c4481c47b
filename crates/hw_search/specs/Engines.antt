-- What the calls inside the crate see of a search, and what its type keeps.
use Rattle.std.specs.Prelude.{◌≡◌, ℕ, ◌<◌, ◌≤◌, Bool, false, List, Option, Some, All, length, slice_get}
use Rattle.hw_model.specs.declared.source.Source.{Source}
use Rattle.hw_model.specs.declared.source.Source.TheVariants.{Goal}
use Rattle.hw_model.specs.Problem.{Problem}
use Rattle.hw_model.specs.Refuting.{IsSourceOf}
use Rattle.hw_model.specs.Quiet.{QuietSource}
use Rattle.hw_model.specs.Rooms.{RoomModel}
use Rattle.hw_trail_laws.specs.Trails.{TrailModel, room_of, back_to, most_events}
use Rattle.hw_search_laws.specs.Searches.{SearchModel, IsSearch, room_in, best_cargo}
use Rattle.hw_search_laws.specs.Starting.{EachSourceOnce}
use Rattle.hw_search_sources.specs.Speaking.{SpeakersModel, TellsSpeakers}
use Rattle.hw_search_sources.specs.Marks.{is_place_marked}

-- the search, its sources in order, and for each whether it is marked: one without a mark is known to be quiet
pub record EngineModel : Type 0 where
  pub search : SearchModel
  pub sources : List Source
  pub marks : List Bool

-- each source without a mark is quiet in the room
abbrev pub QuietUnmarked : Problem → Option ℕ → RoomModel → List Source → List Bool → Type 0
QuietUnmarked f best room sources marks = (place : ℕ) (source : Source) → slice_get sources place ≡ Some source → is_place_marked marks place ≡ false → QuietSource f source best room

-- at the end of each level below the current one each source but the goal was quiet. To these the best doesn't matter
abbrev pub QuietLevels : Problem → Option ℕ → TrailModel → Type 0
QuietLevels f best t = (level : ℕ) → level < t.level → (source : Source) → IsSourceOf f source → (source ≡ Goal → ⊥) → QuietSource f source best (room_of (back_to t level))

-- what the type keeps besides what the store and the propagators keep: `goal` is the place of the goal among the sources, `worth` the cargo of the best, and there is memory for the numbers of `reserved` events
pub record KeepsEngine (e : EngineModel) (table : SpeakersModel) (goal : ℕ) (worth : Option ℕ) (reserved : ℕ) : Type 0 where
  pub search : IsSearch e.search
  pub once : EachSourceOnce e.search.problem e.sources
  pub of_problem : All (IsSourceOf e.search.problem) e.sources
  pub each_mark : length e.marks ≡ length e.sources
  pub quiet : QuietUnmarked e.search.problem (best_cargo e.search) (room_in e.search) e.sources e.marks
  pub quiet_below : QuietLevels e.search.problem (best_cargo e.search) e.search.trail
  pub speakers : TellsSpeakers e.search.problem e.sources table
  pub goal_at : slice_get e.sources goal ≡ Some Goal
  pub worth_is : worth ≡ best_cargo e.search
  pub room : most_events e.search.problem.ships e.search.problem.slots ≤ reserved
