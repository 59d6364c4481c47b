-- Turns of one search, one after another, that bring no lemma.
use Rattle.std.specs.Prelude.{◌≡◌, ◌⊎◌, ℕ, zero, suc, ◌+◌, ◌≤◌, List, Some, ⊤}
use Rattle.hw_trail_laws.specs.Trails.{most_events}
use Rattle.hw_cert.specs.Logs.{LogModel}
use Rattle.hw_search_laws.specs.Searches.{SearchModel, IsSearch}
use Rattle.hw_search_laws.specs.Turns.{DoesDecide, DoesBetter}
use Rattle.hw_search_laws.specs.Offers.{IsBetter}

-- a better timetable was offered, or none; what it left is a search
abbrev pub Offered : SearchModel → SearchModel → Type 0
Offered s u = IsSearch u × ((u ≡ s) ⊎ ((table : List ℕ) × IsBetter s table × (u ≡ record s { best = Some table })))

-- a turn that decided or found a better timetable, on some log; what it left is a search
abbrev pub IdleTurn : SearchModel → SearchModel → Type 0
IdleTurn s u = IsSearch u × (old : LogModel) × (new : LogModel) × (DoesDecide s u old new ⊎ DoesBetter s u old new)

-- this many of them, one after another, before each of which a timetable may have been offered
abbrev pub Idles : ℕ → SearchModel → Type 0
Idles zero s = ⊤
Idles (suc n) s = (mid : SearchModel) × (next : SearchModel) × Offered s mid × IdleTurn mid next × Idles n next

-- they are at most one more than the events that a trail may have: of one turn more than that, one brings a lemma, ends the search or is stopped
abbrev pub LemmaWithin : Type 0
LemmaWithin = (n : ℕ) (s : SearchModel) → IsSearch s → Idles n s → n ≤ most_events s.problem.ships s.problem.slots + 1
