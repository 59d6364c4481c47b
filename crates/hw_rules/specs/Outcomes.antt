-- What a walk through the first n lists of slots finds.
use Rattle.std.specs.Prelude.{ℕ, ◌<◌, ◌≤◌, List, Option, Some, None}
use Rattle.hw_model.specs.Problem.{Problem}
use Rattle.hw_model.specs.Timetables.{Permits, IsBest}
use Rattle.hw_model.specs.Walk.{NoneBefore, FirstBest, table_count}
use Rattle.hw_rules.specs.declared.outcome.Walked.{Walked}
use Rattle.hw_rules.specs.declared.outcome.Walked.TheVariants.{Best, NoneLeft, Spent}

-- the first best of the first `many` lists, or none where none of these is permitted
abbrev pub BestBefore : Problem → ℕ → Option (List ℕ) → Type 0
BestBefore f many None = NoneBefore f many
BestBefore f many (Some table) = (c : ℕ) × FirstBest f many table c

-- the one answer of a walk with a budget. No two cases hold together
abbrev pub WalkedTo : Problem → ℕ → Walked → Type 0
WalkedTo f budget (Best table c) = (table_count f ≤ budget) × FirstBest f (table_count f) table c
WalkedTo f budget NoneLeft = (table_count f ≤ budget) × NoneBefore f (table_count f)
WalkedTo f budget (Spent table) = (budget < table_count f) × BestBefore f budget table

-- some timetable is permitted
abbrev pub SomePermitted : Problem → Type 0
SomePermitted f = (table : List ℕ) × Permits f table

-- the answer is a best timetable
abbrev pub IsBestFound : Walked → Type 0
IsBestFound (Best table c) = Unit {0}
IsBestFound NoneLeft = ⊥
IsBestFound (Spent table) = ⊥

-- the answer is that none is permitted
abbrev pub IsNoneLeft : Walked → Type 0
IsNoneLeft (Best table c) = ⊥
IsNoneLeft NoneLeft = Unit {0}
IsNoneLeft (Spent table) = ⊥

-- the answer is that the budget is spent
abbrev pub IsSpent : Walked → Type 0
IsSpent (Best table c) = ⊥
IsSpent NoneLeft = ⊥
IsSpent (Spent table) = Unit {0}

-- a timetable that is found with its cargo is a best one
abbrev pub FoundIsBest : Problem → Walked → Type 0
FoundIsBest f (Best table c) = IsBest f table c
FoundIsBest f NoneLeft = Unit {0}
FoundIsBest f (Spent table) = Unit {0}
