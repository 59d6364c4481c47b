-- The list of a problem's sources, and the numbers of the restrictions among them.
use Rattle.std.specs.Prelude.{◌≡◌, ◌⊎◌, ℕ, ◌+◌, ◌<◌, List, Option, Some, None, Contains, All, AllPairs}
use Rattle.hw_model.specs.declared.source.Source.{Source}
use Rattle.hw_model.specs.declared.source.Source.TheVariants as sources
use Rattle.hw_model.specs.Problem.{Problem}
use Rattle.hw_model.specs.Timetables.{restriction_count}
use Rattle.hw_model.specs.Refuting.{IsSourceOf, source_of}

-- the number of the restriction that a source is; orders and the goal are none
abbrev pub number_of : Problem → Source → Option ℕ
number_of f (sources.Window ship) = Some ship
number_of f (sources.Rule place) = Some (f.ships + place)
number_of f (sources.Order v w x) = None
number_of f sources.Goal = None

-- each number of a restriction has a source of that number, and each source with a number is the restriction's of that number
abbrev pub RestrictionNumbers : Type 0
RestrictionNumbers = (f : Problem) → (((n : ℕ) → n < restriction_count f → number_of f (source_of f n) ≡ Some n) × ((source : Source) (n : ℕ) → IsSourceOf f source → number_of f source ≡ Some n → (n < restriction_count f) × (source_of f n ≡ source)))

-- windows by ship, then rules by place, then orders of three ships by first, second and third, and the goal is last
abbrev pub ComesBefore : Source → Source → Type 0
ComesBefore (sources.Window a) (sources.Window b) = a < b
ComesBefore (sources.Window a) later = Unit {0}
ComesBefore (sources.Rule a) (sources.Window b) = ⊥
ComesBefore (sources.Rule a) (sources.Rule b) = a < b
ComesBefore (sources.Rule a) later = Unit {0}
ComesBefore (sources.Order a b c) (sources.Order v w x) = (a < v) ⊎ ((a ≡ v) × ((b < w) ⊎ ((b ≡ w) × (c < x))))
ComesBefore (sources.Order a b c) sources.Goal = Unit {0}
ComesBefore (sources.Order a b c) later = ⊥
ComesBefore sources.Goal later = ⊥

-- the list of the problem's sources: each is there, nothing else is, and they stand in order
pub record AreSourcesOf (f : Problem) (list : List Source) : Type 0 where
  pub each : (source : Source) → IsSourceOf f source → Contains list source
  pub only : All (IsSourceOf f) list
  pub order : AllPairs ComesBefore list

-- the list of those that come before a place, which a source out of the problem may name too
pub record AreSourcesBefore (f : Problem) (place : Source) (list : List Source) : Type 0 where
  pub each : (source : Source) → IsSourceOf f source → ComesBefore source place → Contains list source
  pub only : All (λ source. IsSourceOf f source × ComesBefore source place) list
  pub order : AllPairs ComesBefore list

-- the first place among the orders of ship v with each two greater ones
abbrev pub first_order_of : ℕ → Source
first_order_of v = sources.Order v (v + 1) (v + 1 + 1)

-- the first place among the orders of the ships v and w with each greater one
abbrev pub first_order_with : ℕ → ℕ → Source
first_order_with v w = sources.Order v w (w + 1)

-- no source is twice in the list of a problem's sources
abbrev pub NoSourceTwice : Type 0
NoSourceTwice = (f : Problem) (list : List Source) → AreSourcesOf f list → AllPairs (λ earlier later. earlier ≡ later → ⊥) list
