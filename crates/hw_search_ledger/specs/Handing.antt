-- Lines that are handed to a log one after another, and how far that came.
use Rattle.std.specs.Prelude.{◌≡◌, ℕ, ◌≤◌, List, [], ◌++◌, Option, Result, Ok, Err, IsSomeAnd, length, take, slice_get}
use Rattle.hw_desk.specs.State.{Rose}
use Rattle.hw_cert_lines.specs.declared.line.Line.{Line}
use Rattle.hw_cert_lines.specs.declared.line.Line.TheVariants as lines
use Rattle.hw_cert.specs.declared.log.LogStop.{LogStop}
use Rattle.hw_cert.specs.declared.log.LogStop.TheVariants.{Failed, NoMemory}
use Rattle.hw_model.specs.declared.lit.Lit.{Lit}
use Rattle.hw_cert.specs.Logs.{LogTold, LogModel, Grows, IsBegunLine}
use Rattle.hw_search_laws.specs.Turns.{Cited}
use Rattle.hw_search_laws.specs.Laws.{lemma_lines}

-- these lines were taken, and nothing follows them
pub record TakesAll (plan : List Line) (old new : LogModel) : Type 0 where
  pub faults : new.faults ≡ old.faults
  pub told : Grows old new (λ was now. (now.lines ≡ was.lines ++ plan) × (now.remainder ≡ []))

-- why it stopped: a log fails only where its faults rose
abbrev pub StopCause : LogStop → LogModel → LogModel → Type 0
StopCause Failed old new = Rose old.faults new.faults
StopCause NoMemory old new = new.faults ≡ old.faults

-- what follows the lines: of the line that failed a proper prefix; nothing if memory ran out
abbrev pub StopRemainder : LogStop → Option Line → List ℕ → Type 0
StopRemainder Failed next remainder = IsSomeAnd next (λ line. IsBegunLine line remainder)
StopRemainder NoMemory next remainder = remainder ≡ []

-- the first `count` lines of a plan were taken, and the next one was not
pub record StopsAfter (stop : LogStop) (plan : List Line) (count : ℕ) (was now : LogTold) : Type 0 where
  pub lines : now.lines ≡ was.lines ++ take count plan
  pub remainder : StopRemainder stop (slice_get plan count) now.remainder

-- at most the first `most` lines of a plan were taken
pub record StopsWithin (stop : LogStop) (plan : List Line) (most : ℕ) (old new : LogModel) : Type 0 where
  pub later : old.faults ≤ new.faults
  pub cause : StopCause stop old new
  pub told : Grows old new (λ was now. (count : ℕ) × (count ≤ most) × StopsAfter stop plan count was now)

-- the lines are handed to a log in order, up to the first that it doesn't take
abbrev pub Hands : {A : Type 0} → List Line → LogModel → LogModel → Result A LogStop → Type 0
Hands plan old new (Ok done) = TakesAll plan old new
Hands plan old new (Err stop) = StopsWithin stop plan (length plan) old new

-- the lines of a lemma are handed to a log: its reasons, its conflict and itself. A stop comes before the lemma
abbrev pub HandsLemma : {A : Type 0} → Cited → List Lit → LogModel → LogModel → Result A LogStop → Type 0
HandsLemma c lemma old new (Ok done) = TakesAll (lemma_lines c lemma) old new
HandsLemma c lemma old new (Err stop) = StopsWithin stop (lemma_lines c lemma) (length c.lines) old new

-- the line is a table's
abbrev pub IsTableLine : Line → Type 0
IsTableLine line = (table : List ℕ) × (line ≡ lines.Table table)

-- the line is a lemma's
abbrev pub IsLemma : Line → Type 0
IsLemma line = (clause : List Lit) × (hints : List ℕ) × (line ≡ lines.Lemma clause hints)
