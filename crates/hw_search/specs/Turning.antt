-- What a turn begins with, and how it answers where a line wasn't taken.
use Rattle.std.specs.Prelude.{◌≡◌, ℕ, ◌<◌, ◌≤◌, ◌++◌, ◌∷◌, [], true, false, List, Option, None, length}
use Rattle.hw_model.specs.declared.lit.Lit.{Lit}
use Rattle.hw_trail_laws.specs.declared.event.Why.{Why}
use Rattle.hw_trail_laws.specs.Learning.{Learns}
use Rattle.hw_trail_laws.specs.Trails.{reason_clause, decided}
use Rattle.hw_cert.specs.declared.log.LogStop.{LogStop}
use Rattle.hw_cert.specs.declared.log.LogStop.TheVariants.{Failed, NoMemory}
use Rattle.hw_cert.specs.Logs.{LogModel, WhereTold}
use Rattle.hw_search_laws.specs.declared.limits.TheConstants.{MOST_BUDGET}
use Rattle.hw_search_laws.specs.declared.outcome.Turn.{Turn}
use Rattle.hw_search_laws.specs.declared.outcome.Turn.TheVariants as turns
use Rattle.hw_search_laws.specs.Searches.{SearchModel, IsSearch, LogFits}
use Rattle.hw_search_laws.specs.declared.outcome.Settled.{Settled}
use Rattle.hw_search_laws.specs.Settling.{IsConflict, Settles}
use Rattle.hw_search_laws.specs.Starting.{Branches}
use Rattle.hw_search_laws.specs.Turns.{TurnMeets}

-- a search that isn't over and has lemmas left, and a log that fits it
pub record TurnBegins (s : SearchModel) (old : LogModel) : Type 0 where
  pub kept : IsSearch s
  pub going : s.over ≡ false
  pub few : s.lemmas < MOST_BUDGET
  pub fits : WhereTold old (λ told. LogFits told s)

-- a turn that has settled at this answer, whatever search it began with
abbrev pub TurnsFrom : Settled → SearchModel → LogModel → Turn → SearchModel → LogModel → Type 0
TurnsFrom settled mid old turn after new = (s : SearchModel) → TurnBegins s old → Settles s mid settled → TurnMeets s old turn after new

-- a search that isn't over learnt this from a conflict that has literals
pub record Teaches (mid : SearchModel) (why : Why) (lemma : List Lit) (back : ℕ) (places : List ℕ) : Type 0 where
  pub kept : IsSearch mid
  pub going : mid.over ≡ false
  pub conflict : IsConflict mid why
  pub some : 1 ≤ length (reason_clause why)
  pub learns : Learns mid.trail (reason_clause why) lemma back places

-- the answer where a line wasn't taken
abbrev pub turn_of : LogStop → Turn
turn_of Failed = turns.LogFailed
turn_of NoMemory = turns.NoMemory

-- the search over, where settling left it, with these numbers
abbrev pub halted : SearchModel → List (Option ℕ) → ℕ → SearchModel
halted mid written lines = record mid { written = written; clause_lines = lines; over = true }

-- the search after a decision by a literal
abbrev pub decided_by : SearchModel → Lit → SearchModel
decided_by s lit = record s { trail = decided s.trail lit; written = s.written ++ None ∷ [] }

-- the search decided by the branching rule
abbrev pub Decides : SearchModel → SearchModel → Type 0
Decides s after = (lit : Lit) × Branches s lit × (after ≡ decided_by s lit)
