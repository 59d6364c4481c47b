-- What is done when the store or a source is asked.
use Rattle.std.specs.Prelude.{◌≡◌, ◌<◌, ℕ, List, Option, Some, None, Result, Ok, Err, All, length}
use Rattle.hw_model.specs.declared.memory.NoMemory.{NoMemory}
use Rattle.hw_model.specs.declared.source.Source.{Source}
use Rattle.hw_model.specs.Refuting.{IsSourceOf}
use Rattle.hw_model.specs.Quiet.{QuietSource}
use Rattle.hw_model.specs.Replay.{QuietClause}
use Rattle.hw_store.specs.declared.store.Stored.{Stored}
use Rattle.hw_store.specs.Stores.{IsClauseOf}
use Rattle.hw_trail_laws.specs.declared.event.Why.{Why}
use Rattle.hw_trail_laws.specs.declared.event.Why.TheVariants as whys
use Rattle.hw_search_laws.specs.Searches.{SearchModel, IsSearch, room_in, lemmas_in, best_cargo}
use Rattle.hw_search_laws.specs.Settling.{Implies, IsConflict}
use Rattle.hw_search.specs.declared.settling.Asked.{Asked}
use Rattle.hw_search.specs.declared.settling.Asked.TheVariants.{Quiet, Cut, Conflict}

-- each stored lemma is quiet in the room
abbrev pub LemmasQuiet : SearchModel → Type 0
LemmasQuiet s = All (λ clause. QuietClause clause (room_in s)) (lemmas_in s)

-- each source is quiet in the room
abbrev pub SourcesQuiet : SearchModel → Type 0
SourcesQuiet s = (source : Source) → IsSourceOf s.problem source → QuietSource s.problem source (best_cargo s) (room_in s)

-- implied events came, and what is left is a search
pub record Goes (s after : SearchModel) : Type 0 where
  pub implies : Implies s after
  pub kept : IsSearch after

-- at least one event came
pub record Gains (s after : SearchModel) : Type 0 where
  pub goes : Goes s after
  pub more : length s.trail.events < length after.trail.events

-- implied events may have come, and then a clause had no literal left
pub record AskingFails (s after : SearchModel) (why : Why) : Type 0 where
  pub goes : Goes s after
  pub conflict : IsConflict after why

-- what was asked is quiet and nothing changed, literals were implied, or there is a conflict
abbrev pub AskMeets : Type 0 → SearchModel → SearchModel → Result Asked NoMemory → Type 0
AskMeets quiet s after (Ok Quiet) = (after ≡ s) × IsSearch after × quiet
AskMeets quiet s after (Ok Cut) = Gains s after
AskMeets quiet s after (Ok (Conflict why)) = AskingFails s after why
AskMeets quiet s after (Err stop) = Implies s after

-- the store was asked until each lemma is quiet, or there is a conflict
abbrev pub StoreMeets : SearchModel → SearchModel → Result (Option Why) NoMemory → Type 0
StoreMeets s after (Ok None) = Goes s after × LemmasQuiet after
StoreMeets s after (Ok (Some why)) = AskingFails s after why
StoreMeets s after (Err stop) = Implies s after

-- the reason is the clause that is held under this number
abbrev pub IsHeldWhy : List Stored → ℕ → Why → Type 0
IsHeldWhy held id (whys.Lemma number clause) = (number ≡ id) × IsClauseOf held id clause
IsHeldWhy held id (whys.Source source clause) = ⊥
IsHeldWhy held id (whys.Priced clause) = ⊥
