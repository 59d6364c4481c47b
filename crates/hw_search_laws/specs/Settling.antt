-- What settling does.
use Rattle.std.specs.Prelude.{◌≡◌, List, ◌++◌, None, Result, Ok, Err, All, IsSome, length, replicate, ⊤}
use Rattle.hw_model.specs.declared.lit.LitTruth.TheVariants.{False}
use Rattle.hw_model.specs.declared.source.Source.{Source}
use Rattle.hw_model.specs.declared.memory.NoMemory.{NoMemory}
use Rattle.hw_model.specs.Problem.{shape_of}
use Rattle.hw_model.specs.Lits.{IsClause}
use Rattle.hw_model.specs.Narrowing.{truth}
use Rattle.hw_model.specs.Refuting.{IsSourceOf}
use Rattle.hw_model.specs.Quiet.{QuietSource}
use Rattle.hw_model.specs.Replay.{QuietClause}
use Rattle.hw_trail_laws.specs.declared.event.Event.{Event}
use Rattle.hw_trail_laws.specs.declared.event.Why.{Why}
use Rattle.hw_trail_laws.specs.declared.event.Why.TheVariants as whys
use Rattle.hw_trail_laws.specs.Trails.{reason_clause}
use Rattle.hw_search_laws.specs.declared.outcome.Settled.{Settled}
use Rattle.hw_search_laws.specs.declared.outcome.Settled.TheVariants.{Quiet, Conflict}
use Rattle.hw_search_laws.specs.Searches.{SearchModel, IsSearch, IsReason, PricesShow, room_in, lemmas_in, best_cargo}

-- every source and every stored lemma is quiet in the room
pub record AllQuiet (s : SearchModel) : Type 0 where
  pub sources : (source : Source) → IsSourceOf s.problem source → QuietSource s.problem source (best_cargo s) (room_in s)
  pub lemmas : All (λ clause. QuietClause clause (room_in s)) (lemmas_in s)

-- the search with these events after its trail, for whose reasons nothing was written yet
abbrev pub with_events : SearchModel → List Event → SearchModel
with_events s more = record s { trail = record { ships = s.trail.ships; slots = s.trail.slots; events = s.trail.events ++ more; level = s.trail.level }; written = s.written ++ replicate (length more) None }

-- implied events follow the trail, and nothing else changed
pub record Implies (s after : SearchModel) : Type 0 where
  pub more : List Event
  pub implied : All (λ event. IsSome event.why) more
  pub only : after ≡ with_events s more

-- a clause of prices is shown by those in force
abbrev pub IsShownByPrices : SearchModel → Why → Type 0
IsShownByPrices s (whys.Lemma number clause) = ⊤
IsShownByPrices s (whys.Source source clause) = ⊤
IsShownByPrices s (whys.Priced clause) = PricesShow s clause

-- the clause fits, every literal of it is False, and it is a stored lemma or one that its source or the prices in force refute when it is denied
pub record IsConflict (s : SearchModel) (why : Why) : Type 0 where
  pub fits : IsClause (shape_of s.problem) (reason_clause why)
  pub all_false : All (λ lit. truth (room_in s) lit ≡ False) (reason_clause why)
  pub holds : IsReason s why
  pub shown : IsShownByPrices s why

-- how settling ends
abbrev pub SettlingEnds : SearchModel → Settled → Type 0
SettlingEnds s Quiet = AllQuiet s
SettlingEnds s (Conflict why) = IsConflict s why

-- settling from one search to another, which is a search too: its events came as events come, and for reasons
pub record Settles (s after : SearchModel) (settled : Settled) : Type 0 where
  pub implies : Implies s after
  pub kept : IsSearch after
  pub ends : SettlingEnds after settled

-- what the call settles: if memory runs out some literals may have been implied
abbrev pub SettleMeets : SearchModel → SearchModel → Result Settled NoMemory → Type 0
SettleMeets s after (Ok settled) = Settles s after settled
SettleMeets s after (Err stop) = Implies s after
