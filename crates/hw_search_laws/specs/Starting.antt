-- What a new search needs, and what it tells of itself.
use Rattle.std.specs.Prelude.{◌≡◌, List, Some, AllPairs, Contains}
use Rattle.hw_model.specs.declared.lit.Lit.{Lit}
use Rattle.hw_model.specs.declared.source.Source.{Source}
use Rattle.hw_model.specs.Problem.{Problem}
use Rattle.hw_model.specs.Refuting.{IsSourceOf}
use Rattle.hw_rules.specs.Sources.{AreSourcesOf}
use Rattle.hw_search_laws.specs.Branches.{branch_literal}
use Rattle.hw_search_laws.specs.Searches.{SearchModel, room_in}

-- each source of the problem is there, and none is there twice
pub record EachSourceOnce (f : Problem) (sources : List Source) : Type 0 where
  pub each : (source : Source) → IsSourceOf f source → Contains sources source
  pub once : AllPairs (λ earlier later. earlier ≡ later → ⊥) sources

-- the literal by which the search decides in its room
abbrev pub Branches : SearchModel → Lit → Type 0
Branches s lit = branch_literal s.branching s.problem (room_in s) ≡ Some lit

-- in the list of a problem's sources each stands once
abbrev pub SourcesOnce : Type 0
SourcesOnce = (f : Problem) (sources : List Source) → AreSourcesOf f sources → EachSourceOnce f sources
