-- The order in which a walk takes the lists of slots, and what it keeps of them.
use Rattle.std.specs.Prelude.{◌≡◌, ◌↔◌, ℕ, ◌+◌, ◌<◌, Bool, true, false, List, Option, Some, None, slice_index}
use Rattle.hw_model.specs.Problem.{Problem, IsTimetable}
use Rattle.hw_model.specs.Walk.{rank, table_count, NoneBefore, FirstBest}
use Rattle.hw_rules.specs.declared.outcome.Walked.{Walked}
use Rattle.hw_rules.specs.declared.outcome.Walked.TheVariants.{Best, NoneLeft, Spent}

-- lexicographic order: the first ship with two different slots has the lesser one in the first list
abbrev pub Precedes : List ℕ → List ℕ → Type 0
Precedes a b = (ship : ℕ) × ((earlier : ℕ) → earlier < ship → slice_index a earlier ≡ slice_index b earlier) × (slice_index a ship < slice_index b ship)

-- the rank of a timetable follows the lexicographic order
abbrev pub RankFollowsOrder : Type 0
RankFollowsOrder = (f : Problem) (a b : List ℕ) → IsTimetable f a → IsTimetable f b → (Precedes a b ↔ (rank f.slots a < rank f.slots b))

-- each number below the number of lists is the rank of exactly one timetable, and no other is a rank
abbrev pub EachListOnce : Type 0
EachListOnce = (f : Problem) → (((table : List ℕ) → IsTimetable f table → rank f.slots table < table_count f) × ((n : ℕ) → n < table_count f → (table : List ℕ) × IsTimetable f table × (rank f.slots table ≡ n)) × ((a b : List ℕ) → IsTimetable f a → IsTimetable f b → rank f.slots a ≡ rank f.slots b → a ≡ b))

-- the best list so far with its cargo, where there is one
abbrev pub kept : List ℕ → Option ℕ → Option (List ℕ × ℕ)
kept table None = None
kept table (Some c) = Some (table, c)

-- it is the first best of the first `many` lists
abbrev pub BestSoFar : Problem → ℕ → Option (List ℕ × ℕ) → Type 0
BestSoFar f many None = NoneBefore f many
BestSoFar f many (Some best) = FirstBest f many best.0 best.1

-- the first best of the first `many` lists became that of one list more
abbrev pub BestOfOneMore : Problem → ℕ → Option (List ℕ × ℕ) → Option (List ℕ × ℕ) → Type 0
BestOfOneMore f many before after = BestSoFar f many before → BestSoFar f (many + 1) after

-- what is answered after all lists, or after some of them
abbrev pub answer : Bool → List ℕ → Option ℕ → Walked
answer true best (Some c) = Best best c
answer true best None = NoneLeft
answer false best (Some c) = Spent (Some best)
answer false best None = Spent None
