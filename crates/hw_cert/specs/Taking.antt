-- What taking one line's bytes from a feed does.
use Rattle.std.specs.Prelude.{◌≡◌, ◌≤◌, ◌<◌, ◌+◌, ◌^◌, ◌⊎◌, ℕ, List, [], ◌∷◌, ◌++◌, Bool, true, false, Option, Result, Ok, Err, IsErrOf, ⊤, length}
use Rattle.std.specs.Io.KnownBytes.{IsAtEnd}
use Rattle.hw_desk.specs.State.{DeskState, Rose}
use Rattle.hw_desk.specs.Calls.{Moves}
use Rattle.hw_desk.specs.declared.desk.Feed.{Feed}
use Rattle.hw_text.specs.Parts.{lacks}
use Rattle.hw_cert.specs.declared.stop.LineStop.{LineStop}
use Rattle.hw_cert.specs.declared.stop.LineStop.TheVariants as stops
use Rattle.hw_cert.specs.declared.taking.TakenLine.{TakenLine}
use Rattle.hw_cert.specs.declared.taking.TakenLine.TheVariants.{Whole, Unended, Nothing}
use Rattle.hw_cert.specs.Stream.{line_passes_limit}

-- these bytes are a line, a line feed and what is pending, and whether the line passes a limit
pub record WholeLine (taken : ℕ) (all line pending : List ℕ) (long : Bool) : Type 0 where
  pub parts : all ≡ line ++ 10 ∷ pending
  pub lacking : lacks 10 line ≡ true
  pub limit : line_passes_limit taken (length line) 1 ≡ long

-- these bytes have no line feed, and whether they pass a limit
pub record Unparted (taken : ℕ) (all line : List ℕ) (long : Bool) : Type 0 where
  pub parts : all ≡ line
  pub lacking : lacks 10 line ≡ true
  pub limit : line_passes_limit taken (length line) 0 ≡ long

-- what stands at the place of the line, of the bytes that were pending or moved
abbrev pub Stands : ℕ → List ℕ → List ℕ → List ℕ → Option (List ℕ) → Result TakenLine LineStop → Type 0
Stands taken all line pending left (Ok Whole) = WholeLine taken all line pending false
Stands taken all line pending left (Ok Unended) = Unparted taken all line false × (0 < length line) × IsAtEnd left
Stands taken all line pending left (Ok Nothing) = (all ≡ []) × IsAtEnd left
Stands taken all line pending left (Err (stops.Form number word)) = ⊥
Stands taken all line pending left (Err stops.Fault) = ⊤
Stands taken all line pending left (Err stops.TooLong) = WholeLine taken all line pending true ⊎ Unparted taken all line true
Stands taken all line pending left (Err stops.NoMemory) = ⊤

-- bytes were moved, up to one past the limit of the whole, and these are what stands there. Unless the answer is Fault, no read failed
pub record TakesLine (feed : Feed) (taken : ℕ) (before pending line : List ℕ) (old new : DeskState) (result : Result TakenLine LineStop) : Type 0 where
  pub moved : (bytes : List ℕ) × Moves feed bytes old new × (taken + length before + length bytes ≤ 2 ^ 40 + 1) × Stands taken (before ++ bytes) line pending (new.feeds feed).left result
  pub fault : IsErrOf result stops.Fault → Rose old.read_faults new.read_faults
  pub kept : (IsErrOf result stops.Fault → ⊥) → new.read_faults ≡ old.read_faults
